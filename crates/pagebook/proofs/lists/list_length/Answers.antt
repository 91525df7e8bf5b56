-- Each field is counted while the numbers climb.
use Rattle.std.proofs.Common.{◌≡◌, ◌<◌, ◌≤◌, ◌⊎◌, ◌∙◌, inl, inr, arith}
use Rattle.std.specs.Slice.Iter.{chunks_exact_rest}
use Rattle.std.specs.Iterator.Adapters.{enumerate_count, enumerate_source}
use Rattle.pagebook.specs.Reading.{number_shown}
use Rattle.pagebook.proofs.Entries.{counted_none, counted_more, counted_end, counted_all}
use Rattle.pagebook.proofs.lists.list_length.Goals.{then-number-last-via-then-number-last, then-number-last-via-else-number-last+then-number-highest}
use Rattle.pagebook.proofs.lists.list_length.Goals as goal

pub loop-place-init : goal.loop-place-init
loop-place-init c =
    let it = c.into_iter-place-iterator.result in
    let count : enumerate_count it ≡ 0 = cc in
    let rest : chunks_exact_rest (enumerate_source it) ≡ c.args.list.now = cc in
    record { so_far = rw (count, rest) (counted_none c.args.list.now c.args.highest c.requires); fields = cc }

pub returns-then-number-last : goal.returns-then-number-last
returns-then-number-last c =
    let steps = c.in-Some.ensures.steps in
    let field = c.in-Some.field.now in
    let read = c.number_in-number.ensures in
    let out : (number_shown field ≤ c.loop-place.last) ⊎ (c.args.highest < number_shown field) = elim c.then-number-last.branch [
      | then-number-last-via-then-number-last w ↦ inl (omega (arith, w.if-number-last.true))
      | then-number-last-via-else-number-last+then-number-highest w ↦ inr (omega (arith, w.if-number-highest.true))
    ] in
    steps.1 ∙ counted_end c.args.list.now c.args.highest _ c.loop-place.last _ field _ c.loop-place.invariant.so_far steps.0.1.0 (steps.0.1.1 ∙ c.loop-place.invariant.fields) out

pub loop-place-preserved : goal.loop-place-preserved
loop-place-preserved c =
    let steps = c.in-Some.ensures.steps in
    let field = c.in-Some.field.now in
    let read = c.number_in-number.ensures in
    record {
      so_far = rw (steps.2, read) (counted_more c.args.list.now c.args.highest _ c.loop-place.last _ field _ c.loop-place.invariant.so_far steps.0.1.0 (steps.0.1.1 ∙ c.loop-place.invariant.fields) (omega arith) (omega arith));
      fields = steps.0.0 ∙ c.loop-place.invariant.fields;
    }

pub returns : goal.returns
returns c =
    let steps = c.in-None.ensures.steps in
    counted_all c.args.list.now c.args.highest _ c.loop-place.last _ c.loop-place.invariant.so_far (omega (arith, steps.0.1.0, c.loop-place.invariant.fields))
