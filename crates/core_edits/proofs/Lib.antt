mod Firsts
mod RecordSteps
mod KnownEdits
mod ReadingEdits
mod WorkedTexts
