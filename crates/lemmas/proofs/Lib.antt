-- Each file is for itself: Truths, Numbers, Lists, Texts, Results.
pub mod Truths
pub mod Numbers
pub mod Lists
pub mod Texts
pub mod Results
