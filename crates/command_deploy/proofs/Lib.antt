-- AfterHead has what follows from a head that was read, Owing what is due of some lines and the exit
-- status, once the own part owes as it must, and Said what follows for the whole command. Good is of
-- the parts whose own lines are a schedule, Given of the lines that an own part was given, Same of
-- two calls over the same input.
pub mod AfterHead
pub mod Given
pub mod Good
pub mod Owing
pub mod Said
pub mod Same
