-- Every marked case holds: the table is computed, and P1's safe is never by the theorem.
use mathlib.Core.Path.{◌≡◌, refl, sym, ap, ◌∙◌}
use mathlib.Core.List.{List, [], ◌∷◌}
use Prim.Native.Nat.{ℕ}
use native.Mathlib.Omega.{arith}
use lib.ListN.{length}
use Rattle.bits.specs.Field.{bit_at, number_of, number_at, field_at}
use Rattle.bits.specs.Packed.{tab}
use Rattle.bits.specs.Set.{size_of, in_set, all_below, subset_of, proper_of}
use Rattle.format.specs.Format.{unless, first, tested, and_then, taken, within, field, check, rows_read, rows, pair, via, zeros}
use Rattle.format.specs.File.{ended, read_file}
use Rattle.policy.specs.Policy.{no_attr, Policy, fewest_from, fewest_bits, bits_for, codes, width}
use Rattle.policy.specs.Nodes.{op_of, first_of, second_of, holder_of, place_of, may_use, of_holder, named, names, atomic, node_ok, same_list, lists_agree}
use Rattle.policy.specs.File.{count, head_format, largest, no_sizes, sizes_after, size_fits, attr_format, class_format, lists_format, value_format, session_format, node_format, formula_format, policy_format}
use Rattle.rules.specs.Answers.{rules, answered, reading}
use Rattle.formulas.specs.Value.{attr_of, part_of, held_by, operand, size_of_operand}
use Rattle.formulas.specs.Meaning.{compared, node_says, said, holds}
use Rattle.lists.specs.Lists.{in_lists, listed}
use Rattle.lanes.specs.Lanes.{some_below, count_below}
use Rattle.runs.specs.Edge.{opens_with, changes_to, makes_with, modifies_to, accesses}
use Rattle.runs.specs.Grant.{user, anything}
use Rattle.runs.specs.State.{session_at as session_of, item_at as item_of, begin}
use Rattle.verdict.specs.Closure.{table_from, table as table_of, in_table, round, rounds, closure}
use Rattle.verdict.specs.Verdict.{reached, reached_from, helpers, all_brought, pairs, can_make, can_modify, made, item_from, of_one, who_can, which_can, leaks, values}
use Rattle.allowed.specs.Allowed.{says, opening, changing, making, modifying, accessing, user_value, model_of}
use Rattle.cells.specs.Row.{parts_of, bits_of, step_of}
use Rattle.cells.specs.Cell.{place_of as cell_of, open_cell, closed_cell, item_cell, session_in, session_at, item_in, item_at}
use Rattle.live.specs.Lent.{host_number, refused, done, tested as tested_step, of_session, of_item, numbers, all_given, left}
use Rattle.steps.specs.Step.{session_now, item_now, with_session, with_item, session_given, item_given, opening as opening_step, making as making_step, modifying as modifying_step, accessing as accessing_step, by_kind, step_in}
use Rattle.starting.specs.Start.{over, session_cells, item_cells, nothing_given, started, start_rules, beginning}
use Rattle.replay.specs.Asked.{Asked, one-user, any-item}
use Rattle.replay.specs.Question.{parts_of as question_of, who_of, which_of, who_among, which_among, parts_ask, asks}
use Rattle.replay.specs.Rows.{ran_all, further, rows_in}
use Rattle.replay.specs.Replay.{is_of, who_fits, which_fits, step_fits, last_fits, judged, played, replayed}
use Rattle.analyser.specs.Told.{safe_verdict, Told, refused as refused_answer}
use Rattle.analyser.specs.Answer.{session_values, item_values, rows_needed, starts_brought, decided, told}
use Rattle.analyser.specs.Means.{Means}
use Rattle.analyser.proofs.Theorems.{safe-is-never}
use Rattle.output.specs.Lines.{numeral_in, numeral, safe_word, line, verdict_line, line_at}
use Rattle.program.specs.Program.{ProgramMeans}
use Rattle.p_cases.specs.Cases.{counter_file, first_step, row, shown_rows, shorter_rows, of_user0, of_user1, is_told, replay_number, widest, table, all_hold, CounterNever, CounterPrints, PaperCases}

-- of the counter file, computed: P1's verdict, how many users and permissions it has, and the answer where 8,192 rows are lent
counter-computed : ((told (reading counter_file) of_user1 9).verdict ≡ safe_verdict) × (length (start_rules (reading counter_file)).users ≡ 2)
    × ((start_rules (reading counter_file)).head.permissions ≡ 1)
    × (told (reading counter_file) of_user1 8192 ≡ record { number = 0; verdict = safe_verdict; pairs = 3; values = 2 })
unfolding counter_file of_user1 bit_at number_of number_at field_at tab size_of in_set all_below subset_of proper_of unless first tested and_then taken within field check rows_read rows pair via zeros ended read_file fewest_from fewest_bits bits_for codes width op_of first_of second_of holder_of place_of may_use of_holder no_attr named names atomic node_ok same_list lists_agree count head_format largest no_sizes sizes_after size_fits attr_format class_format lists_format value_format session_format node_format formula_format policy_format answered reading attr_of part_of held_by operand size_of_operand compared node_says said holds in_lists listed some_below count_below opens_with changes_to makes_with modifies_to accesses session_of item_of begin table_from table_of in_table round rounds closure reached reached_from helpers all_brought pairs can_make can_modify made item_from of_one who_can which_can leaks values says opening changing making modifying accessing user_value model_of beginning question_of who_of which_of who_among which_among parts_ask asks session_values item_values rows_needed refused_answer starts_brought decided told start_rules
counter-computed = (refl, refl, refl, refl)

counter-rules : (p : Policy) → reading counter_file ≡ rules p → start_rules (reading counter_file) ≡ p
unfolding start_rules
counter-rules p e = rw e refl

-- the question 41 80 00: user 1, any item, permission 0
counter-asked : (p : Policy) → reading counter_file ≡ rules p → Asked p of_user1 (user 1) anything 0
unfolding of_user1
counter-asked p e =
    let same = counter-rules p e in
    let users : length p.users ≡ 2 = sym (ap (λ (q : Policy). length q.users) same) ∙ counter-computed.1 in
    let permissions : p.head.permissions ≡ 1 = sym (ap (λ (q : Policy). q.head.permissions) same) ∙ counter-computed.2 in
    record {
      who-kind = 1;
      who-number = 1;
      item-kind = 1;
      item-number = 0;
      bytes = refl;
      who-bits = omega arith;
      item-bits = omega arith;
      who-there = one-user refl (omega arith) refl;
      item-there = any-item refl refl refl;
      permission-there = omega arith;
    }

pub counter-never : CounterNever
counter-never p e = safe-is-never counter_file of_user1 9 p e counter-computed.0 (user 1) anything 0 (counter-asked p e)

-- the line of a safe answer with the counts 3 and 2
counter-line : (n : ℕ) (after : List ℕ) → line_at record { number = 0; verdict = safe_verdict; pairs = 3; values = 2 } n after 0 ≡ 83 ∷ 65 ∷ 70 ∷ 69 ∷ 32 ∷ 51 ∷ 32 ∷ 50 ∷ 10 ∷ []
unfolding line_at verdict_line line numeral numeral_in safe_word
counter-line n after = refl

counter-printed : (before after : List ℕ) (t : Told) (n : ℕ) → length before ≡ 8192 → Means counter_file of_user1 before after t n
    → (n ≡ 0) × (line_at t n after 0 ≡ 83 ∷ 65 ∷ 70 ∷ 69 ∷ 32 ∷ 51 ∷ 32 ∷ 50 ∷ 10 ∷ [])
counter-printed before after t n e m =
    let told_is = m.answer ∙ ap (told (reading counter_file) of_user1) e ∙ counter-computed.3 in
    let safe : t.verdict ≡ safe_verdict = ap (λ (x : Told). x.verdict) told_is in
    ((m.rows_none (λ l. omega arith)).0, ap (λ (x : Told). line_at x n after 0) told_is ∙ counter-line n after)

pub counter-prints : CounterPrints
unfolding of_user1 ProgramMeans
counter-prints before after t n e m = counter-printed before after t n e m

pub paper-cases : PaperCases
unfolding table all_hold counter_file host_number first_step row shown_rows shorter_rows of_user0 of_user1 is_told replay_number widest bit_at number_of number_at field_at tab size_of in_set all_below subset_of proper_of unless first tested and_then taken within field check rows_read rows pair via zeros ended read_file fewest_from fewest_bits bits_for codes width op_of first_of second_of holder_of place_of may_use of_holder no_attr named names atomic node_ok same_list lists_agree count head_format largest no_sizes sizes_after size_fits attr_format class_format lists_format value_format session_format node_format formula_format policy_format answered reading attr_of part_of held_by operand size_of_operand compared node_says said holds in_lists listed some_below count_below opens_with changes_to makes_with modifies_to accesses session_of item_of begin table_from table_of in_table round rounds closure reached reached_from helpers all_brought pairs can_make can_modify made item_from of_one who_can which_can leaks values says opening changing making modifying accessing user_value model_of parts_of bits_of step_of cell_of open_cell closed_cell item_cell session_in session_at item_in item_at refused done tested_step of_session of_item numbers all_given left session_now item_now with_session with_item session_given item_given opening_step making_step modifying_step accessing_step by_kind step_in over session_cells item_cells nothing_given started beginning question_of who_of which_of who_among which_among parts_ask asks ran_all further rows_in is_of who_fits which_fits step_fits last_fits judged played replayed session_values item_values rows_needed refused_answer starts_brought decided told
paper-cases = (refl, counter-never)
