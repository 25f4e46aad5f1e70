pub mod FlatWays
