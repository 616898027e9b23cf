-- Begin with Laws: what holds of the honest run that the program makes. Samplings has its words.
pub mod Samplings
pub mod Laws
