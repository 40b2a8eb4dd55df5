pub mod Fitting
pub mod Spelling
pub mod StepTexts
pub mod Words
