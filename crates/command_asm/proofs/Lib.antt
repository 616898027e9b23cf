-- Of `asm`: Gathering is how a text comes, Coded its code, Statused its status; begin with
-- AsmPromised. Of `dis`: Coming is how bytes come; begin with Listed. Sizes and LeftLines are of
-- the listing of both.
pub mod AsmPromised
pub mod Coded
pub mod Coming
pub mod Gathering
pub mod LeftLines
pub mod Listed
pub mod Sizes
pub mod Statused
