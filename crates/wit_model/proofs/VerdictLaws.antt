-- Laws of the verdict of a check.
pub mod Ahead
pub mod AheadLaws
pub mod AllAhead
pub mod Classes
pub mod Direct
pub mod Judged
pub mod Learning
pub mod Passing
pub mod Quiet
pub mod Rises
pub mod Rising
pub mod Told
pub mod ToldOnce
