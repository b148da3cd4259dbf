-- Values with partials: what they are and what each operation makes of them.
pub mod Dual
