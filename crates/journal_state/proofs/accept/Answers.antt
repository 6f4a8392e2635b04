-- `journal_state::accept` meets its contract: a case for each answer.
use mathlib.Core.Path.{sym, ap, ◌∙◌}
use mathlib.Core.Bool.{true, false, not}
use borrow.Author.Tests.{not-true}
use lib.ListN.{length}
use Rattle.journal_state.specs.State.{kept}
use Rattle.journal_state.proofs.Files as files
use Rattle.journal_state.proofs.accept.Goals as goal

pub returns-then-len : goal.returns-then-len
returns-then-len c =
    let a = c.args in
    let k = kept a.numbers.now a.name.now a.last.now a.image.now a.tail.now in
    files.accept_size a.bytes.now k (files.is_length (length a.bytes.now) true c.if-len.true)

pub is_state-requires : goal.is_state-requires
is_state-requires c =
    let bytes = c.args.bytes.now in
    let is = files.is_length (length bytes) false c.if-len.false in
    (is, c.numbers_in-read.ensures, c.put_bytes.ensures ∙ files.rest_is bytes (files.lengths (length bytes) is).0)

pub returns-then-not-is_state : goal.returns-then-not-is_state
returns-then-not-is_state c =
    let a = c.args in
    let k = kept a.numbers.now a.name.now a.last.now a.image.now a.tail.now in
    files.accept_not a.bytes.now k (files.is_length (length a.bytes.now) false c.if-len.false)
    (sym c.is_state.ensures ∙ not-true _ (ap not c.if-not-is_state.true))

pub returns : goal.returns
returns c =
    let a = c.args in
    let bytes = a.bytes.now in
    let k = kept a.numbers.now a.name.now a.last.now a.image.now a.tail.now in
    let is = files.is_length (length bytes) false c.if-len.false in
    let rest = c.put_bytes.ensures ∙ files.rest_is bytes (files.lengths (length bytes) is).0 in
    (λ j. record {
      number = 0;
      next = kept (c.numbers_in-read.ensures j) (c.copy_from_slice.ensures.after j)
          (c.copy_from_slice-2.ensures.after j)
          (c.copy_from_slice-3.ensures.after j) (rest j);
    })
    ∙ files.accept_done bytes k is (sym c.is_state.ensures ∙ c.if-not-is_state.false)

pub numbers_in-read-requires : goal.numbers_in-read-requires
numbers_in-read-requires c =
    let n = length c.args.bytes.now in
    (files.lengths n (files.is_length n false c.if-len.false)).0
