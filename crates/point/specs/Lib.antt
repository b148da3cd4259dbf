-- The point, its derivatives and the unit tangent at a parameter.
pub mod Point
