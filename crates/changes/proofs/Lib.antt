pub mod Standings
pub mod RulesParts
pub mod Rules
pub mod Log
pub mod Run
