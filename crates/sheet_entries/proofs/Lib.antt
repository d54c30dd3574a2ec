pub mod SheetEntries
pub mod OneSheetAnswer
