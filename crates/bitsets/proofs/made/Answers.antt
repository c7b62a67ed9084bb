-- `bitsets::made` meets its contract: one law for each thing that a step does.
use borrow.Author.Rules.{rules}
use Rattle.lanes.proofs.Laws.{lanes-as}
use Rattle.bitsets.specs.Rows.{bit_at}
use Rattle.bitsets.specs.Steps.{does_of, left_of, right_of}
use Rattle.bitsets.proofs.Steps.{made-true, made-not, made-and, made-or, made-bit, made_table, made_none}
use Rattle.bitsets.proofs.made.Goals as goal

pub returns-in-1 : goal.returns-in-1
unfolding does_of left_of right_of
returns-in-1 c = let a = c.args in made-true (bit_at a.area.now) a.i a.s _ c.in-1.is c.all.ensures

pub returns-in-2 : goal.returns-in-2
unfolding does_of left_of right_of
returns-in-2 c =
    let a = c.args in
    let l = c.load in
    made-not (bit_at a.area.now) a.i a.s _ l.result l.ensures c.in-2.is c.not.ensures

pub returns-in-3 : goal.returns-in-3
unfolding does_of left_of right_of
returns-in-3 c =
    let a = c.args in
    let l = c.load-in-3 in
    let r = c.load-in-3-2 in
    made-and (bit_at a.area.now) a.i a.s _ l.result l.ensures r.result r.ensures
    c.in-3.is c.and.ensures

pub returns-in-4 : goal.returns-in-4
unfolding does_of left_of right_of
returns-in-4 c =
    let a = c.args in
    let l = c.load-in-4 in
    let r = c.load-in-4-2 in
    made-or (bit_at a.area.now) a.i a.s _ l.result l.ensures r.result r.ensures
    c.in-4.is c.or.ensures

pub returns-in-5 : goal.returns-in-5
unfolding does_of left_of right_of
returns-in-5 c =
    let a = c.args in
    made-bit (bit_at a.area.now) a.i a.s _ c.in-5.is
    (lanes-as _ _ _ c.whole.ensures (λ v h. c.bit.ensures))

pub returns-in-6 : goal.returns-in-6
unfolding does_of left_of right_of
returns-in-6 c = let a = c.args in made_table (bit_at a.area.now) a.i a.s _ c.in-6.is c.load-in-6.ensures

pub returns-in_default : goal.returns-in_default
unfolding does_of left_of right_of
returns-in_default c =
    let a = c.args in
    made_none (bit_at a.area.now) a.i a.s _ (search rules) (search rules) (search rules) (search rules) (search rules) (search rules) c.none.ensures
