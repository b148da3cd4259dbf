-- How values with partials lie in two lent slices.
pub mod Cell
pub mod Normal
