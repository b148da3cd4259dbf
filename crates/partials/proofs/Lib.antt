-- What a room of partials holds that a loop has filled from the front.
pub mod Laid
