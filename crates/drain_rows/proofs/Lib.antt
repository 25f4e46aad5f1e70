pub mod Names
pub mod WindowLemmas
pub mod CountedRules
