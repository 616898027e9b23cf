-- Begin with Table: what each calculation gives, over Status, the flags, and Widths.
pub mod Status
pub mod Table
pub mod Widths
