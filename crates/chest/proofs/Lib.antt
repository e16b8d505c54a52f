-- The laws of the whole sheet, with no code in sight.
mod Sheets
mod Sample
