pub mod Names
pub mod VouchedNumbers
pub mod NamedNumbers
pub mod Keys
pub mod NearWays
pub mod CappedSums
pub mod RightOutlets
pub mod Counting
pub mod ClearedRules
pub mod Numbers
pub mod Inland
pub mod ClassWays
pub mod FractionWays
pub mod FloatWays
pub mod Ways
pub mod Meaning
pub mod SeenNumbers
pub mod OnGround
pub mod Fallen
pub mod ConAlone
mod UnitWays
mod Blocks
mod Made
