-- An answered interval is one of two cases; the length, summed or stored.
pub mod Apart
pub mod Stored
pub mod Walked
