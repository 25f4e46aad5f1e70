pub mod Names
mod TriedRules
mod UntriedRules
