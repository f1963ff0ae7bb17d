-- The starred examples of document 01 hold: every row of the table, computed.
-- Assumes nothing.
use mathlib.Core.Path.{refl}
use lib.Ieee.{add, sub, mul, div, of_int, le, to_bits}
use Rattle.field.specs.Field.{num, field, digits, stored, signed_field}
use Rattle.field.specs.Row.{row, row_at, total, stored_row}
use Rattle.field.specs.Tab.{tab}
use Rattle.setting.specs.Found.{numbers_of as bank_numbers, test, then}
use Rattle.limits.specs.Range.{both as both_in, between, within, temperature}
use Rattle.setting.specs.Setting.{settings_at, first_of, head_found, halves_found, settings_found, settings_in}
use Rattle.capacity.specs.Capacity.{capacity_of}
use Rattle.bank.specs.Check.{pair_right, pairs_from, pairs_found, signals_right, step_right, steps_found, bodies_found, of_length, found_in}
use Rattle.bank.specs.View.{step_at, pattern_at, patterns_of, no_pattern, no_step, numbered as entry, pattern_of, step_of, place_of}
use Rattle.arrays.specs.Encode.{paired, steps_bytes, bodies_bytes, pairs_bytes, encode}
use Rattle.measure.specs.Filter.{lagged, kept, after_of, first_of as first_reading, within as in_range, nearest, whole_of, sound_of, outside_of}
use Rattle.position.specs.Tests.{either, all, zero_z, apart, numbered as ordinal}
use Rattle.position.specs.Program.{limit_of, here_by, here_of, is_timer, here_at, active, toward, ramp_of, set_value_of, near_of, past_of, in_zone_of}
use Rattle.position.specs.Program.{second_position, leaves_of}
use Rattle.position.specs.Program.{next_position, tick_position, signal_of, signals_of, shown_of}
use Rattle.position.specs.Command.{takes_of, selects_of, is_start, start_position, is_value, value_of, start_base, lacks_value, stuck_of, command_position}
use Rattle.position.specs.Return.{goes_on, return_position, times_right, cleared_of, readable_of}
use Rattle.alarm.specs.Alarm.{in_range as setting_in_range, all_in_range, judged_value, condition, flags_of, holds_at, waits, on_after, passed_after, count_after}
use Rattle.alarm.specs.Alarm.{alarm_after, judged_by, kept_in, tick_alarms, bounded, all_bounded}
use Rattle.alarm.specs.Part.{alarms_at}
use Rattle.plain.specs.Answer.{number_of as refusal_number, numbers_of}
use Rattle.plain.specs.Event.{fresh, dark_run, dark, cut_effect, brought_back, retained_in, known_effect, event_effect, event_outcome, make_outcome}
use Rattle.plain.specs.Record.{widths_of, numbers_in, credit_widths, record_of, position_in, credits_in, alarms_in, sized}
use Rattle.plain.specs.Refusals.{sound_state}
use Rattle.plain.specs.Run.{sound_by, cooked, credited, measuring, counting, stepping, judging, tick_by, tick_credit, tick_saves, return_by}
use Rattle.plain.specs.Setup.{here_in}
use Rattle.key.specs.Line.{are_digits, read_on, unsigned, negated, number_of, key_of, is_only, tick, return, tick_of, return_of, valued, asked_by}
use Rattle.decimal.specs.Text.{decimal, text, line_of}
use Rattle.line.specs.Beside.{sheet_config}
use Rattle.line.specs.Sheet.{lines_from, next_line, answers_to, made, all_of, sheet_text}
use Rattle.line.specs.Text.{eight, refusal, showing, asked_for, answered_to}
use Rattle.starred.specs.Table.{bytes, table, Holds}

-- every definition that the table reaches
pub starred : Holds table
unfolding add sub mul div of_int le to_bits num field digits stored signed_field row row_at total stored_row tab bank_numbers test then
    both_in between within temperature settings_at first_of head_found halves_found settings_found settings_in
    capacity_of pair_right pairs_from pairs_found signals_right step_right steps_found bodies_found of_length found_in
    step_at pattern_at patterns_of no_pattern no_step entry pattern_of step_of place_of paired steps_bytes bodies_bytes pairs_bytes encode
    lagged kept after_of first_reading in_range nearest whole_of sound_of outside_of either all zero_z apart ordinal
    limit_of here_by here_of is_timer here_at active toward ramp_of set_value_of near_of past_of in_zone_of second_position leaves_of
    next_position tick_position signal_of signals_of shown_of takes_of selects_of is_start start_position is_value value_of start_base lacks_value stuck_of command_position
    goes_on return_position times_right cleared_of readable_of
    setting_in_range all_in_range judged_value condition flags_of holds_at waits on_after passed_after count_after
    alarm_after judged_by kept_in tick_alarms bounded all_bounded alarms_at refusal_number numbers_of
    fresh dark_run dark cut_effect brought_back retained_in known_effect event_effect event_outcome make_outcome
    widths_of numbers_in credit_widths record_of position_in credits_in alarms_in sized sound_state
    sound_by cooked credited measuring counting stepping judging tick_by tick_credit tick_saves return_by here_in
    are_digits read_on unsigned negated number_of key_of is_only tick return tick_of return_of valued asked_by decimal text line_of
    sheet_config lines_from next_line answers_to made all_of sheet_text eight refusal showing asked_for answered_to bytes
starred = (refl, (refl, (refl, (refl, (refl, (refl, (refl, tt)))))))
