-- `Cuts`: what one row loses. `Walk`: the rules' definition one row more at a time. `Sharer`: that one of a pool's rows shares. `Rest`: what is left
-- of the loss. `Sizes`: what fits a word. `Turns`: a settled loss row by row. `Writes`: the loop that writes it. `Limits`: whether a stake passes its limit.
pub mod Cuts
pub mod Walk
pub mod Sharer
pub mod Rest
pub mod Sizes
pub mod Turns
pub mod Writes
pub mod Limits
