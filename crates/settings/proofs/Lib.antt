-- Laws of the settings on words. `Opening`: the first rungs. `Plans`: the rungs of each operation. `RateWords`: the rate as a word, and what banking asks.
-- `RateRows`: rows as they are banked. `RateWalk`: the walk that writes them.
pub mod Opening
pub mod Plans
pub mod RateRows
pub mod RateWalk
pub mod RateWords
