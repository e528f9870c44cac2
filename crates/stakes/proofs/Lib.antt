-- Laws of stake and withdraw on words: amounts, the rungs of a plan, a staker's row written.
pub mod StakeWords
pub mod StakeRungs
pub mod StakeWrites
pub mod StakeRows
