-- The modules' lines.
pub mod ModuleLines
