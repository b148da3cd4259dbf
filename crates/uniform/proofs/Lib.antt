-- Uniform knots pass the rules.
pub mod Uniforms
