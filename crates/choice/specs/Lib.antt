-- A choice by a test, which the definitions of all crates above use.
pub mod Pick
