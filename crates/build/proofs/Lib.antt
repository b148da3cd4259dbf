-- What the forms differ in, what a build leaves behind in slices, its length there, and that every door accepts what it makes.
pub mod Forms
pub mod Doors
pub mod Turned
pub mod Sliced
pub mod Lengths
