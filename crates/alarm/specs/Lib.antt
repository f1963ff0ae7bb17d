-- Four event alarms, in the words of note 1 of document 02; their part of the record; and what short ways of the code test.
pub mod Alarm
pub mod Part
pub mod Idle
