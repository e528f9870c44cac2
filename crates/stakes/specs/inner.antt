-- Definitions that only contracts of private functions cite: the check holds code to them, and no reader need believe them.
pub mod Changes
