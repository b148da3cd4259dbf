-- Curves from control points.
pub mod Control
pub mod Rules
