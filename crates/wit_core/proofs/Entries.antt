-- What each accepted call needs of a verifier's parts, and what it leaves of them.
pub mod Accepting
pub mod Acquiring
pub mod Beginning
pub mod Checking
pub mod Defining
pub mod Destroying
pub mod GivingUp
pub mod Making
pub mod Naming
pub mod Plain
pub mod Unlocking
pub mod Watching
