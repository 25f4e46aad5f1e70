pub mod LookedAt
