-- The laws of a row and of its remark, with no code in sight.
mod Columns
mod Remarks
mod Uncut
