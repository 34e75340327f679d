-- What only inner contracts cite: how the code goes about it. What states the documents stands beside this folder.
pub mod Found
