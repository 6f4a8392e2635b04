-- `plan_site::check_bytes` meets its contract: each return is one of `Answers`.
use mathlib.Core.Path.{sym, ◌∙◌, subst}
use mathlib.Core.List.{map}
use Prim.Native.Nat.{ℕ}
use Rattle.std.specs.Prelude.{Option}
use Rattle.plan_site.specs.Site.{IsFirst}
use Rattle.plan_site.specs.Bytes.{assignment_of}
use Rattle.plan_site.proofs.Answers.{is_unlawful, whole_of, too_many, out_of_range, unlawful, lawful_pairs}
use Rattle.plan_site.proofs.check_bytes.Goals as goal

pub returns-then-repeaters-gt-MAX_REPEATERS : goal.returns-then-repeaters-gt-MAX_REPEATERS
returns-then-repeaters-gt-MAX_REPEATERS c =
    let cut = c.as_chunks.ensures in
    let whole = whole_of c.args.bytes.now _ c.is_empty.ensures c.if-not-is_empty.false cut.back_len in
    too_many _ _ whole cut.front cut.front_len c.if-repeaters-gt-MAX_REPEATERS.true

pub returns-then-not-all_in_range : goal.returns-then-not-all_in_range
returns-then-not-all_in_range c =
    let cut = c.as_chunks.ensures in
    let whole = whole_of c.args.bytes.now _ c.is_empty.ensures c.if-not-is_empty.false cut.back_len in
    out_of_range _ _ whole cut.front cut.front_len c.if-repeaters-gt-MAX_REPEATERS.false
    (sym c.all_in_range.ensures ∙ c.if-not-all_in_range.true)

pub returns-in-Some : goal.returns-in-Some
returns-in-Some c =
    let cut = c.as_chunks.ensures in
    let whole = whole_of c.args.bytes.now _ c.is_empty.ensures c.if-not-is_empty.false cut.back_len in
    unlawful _ _ whole cut.front cut.front_len c.if-repeaters-gt-MAX_REPEATERS.false
    (sym c.all_in_range.ensures ∙ c.if-not-all_in_range.false) _
    (subst (λ (r : Option ℕ). IsFirst is_unlawful (map assignment_of c.as_chunks.result.0.now) r) c.in-Some.is
    c.first_unlawful.ensures)

pub returns : goal.returns
returns c =
    let cut = c.as_chunks.ensures in
    let whole = whole_of c.args.bytes.now _ c.is_empty.ensures c.if-not-is_empty.false cut.back_len in
    c.first_overlap.ensures
    ∙ lawful_pairs _ _ whole cut.front cut.front_len c.if-repeaters-gt-MAX_REPEATERS.false
    (sym c.all_in_range.ensures ∙ c.if-not-all_in_range.false)
    (subst (λ (r : Option ℕ). IsFirst is_unlawful (map assignment_of c.as_chunks.result.0.now) r) c.in_default.is
    c.first_unlawful.ensures)
