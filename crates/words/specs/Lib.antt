pub mod Mask
pub mod Shift
pub mod DigitsLaws
pub mod MaskLaws
pub mod ShiftStepsLaws
pub mod ShiftPlacesLaws
pub mod ShiftWindowLaws
pub mod ShiftLaws
