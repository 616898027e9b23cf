-- Begin with Running: the steps of an invocation in a world, by Observing and Middle. Calling is
-- the whole call, Finishing and Budgets its bound, Four the four entries.
pub mod Observing
pub mod Registering
pub mod Runner
pub mod Middle
pub mod Running
pub mod Finishing
pub mod Calling
pub mod GoingOn
pub mod Budgets
pub mod KeyGiving
pub mod Showing
pub mod Four
