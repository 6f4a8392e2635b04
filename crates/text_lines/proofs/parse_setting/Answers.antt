-- `text_lines::parse_setting` meets its contract: the three comparisons are those of `setting_of`.
use mathlib.Core.Path.{◌∙◌}
use Rattle.base_lists.proofs.Equal.{equal-said}
use Rattle.text_lines.specs.Reading.{setting_of}
use Rattle.text_lines.proofs.parse_setting.Goals as goal

pub returns-then-same : goal.returns-then-same
unfolding setting_of
returns-then-same c = rw (equal-said _ _ _ c.same.ensures ∙ c.if-same.true)

pub returns-then-same-2 : goal.returns-then-same-2
unfolding setting_of
returns-then-same-2 c =
    rw (
      equal-said _ _ _ c.same.ensures ∙ c.if-same.false,
      equal-said _ _ _ c.same-2.ensures ∙ c.if-same-2.true,
    )

pub returns-then-same-3 : goal.returns-then-same-3
unfolding setting_of
returns-then-same-3 c =
    rw (
      equal-said _ _ _ c.same.ensures ∙ c.if-same.false,
      equal-said _ _ _ c.same-2.ensures ∙ c.if-same-2.false,
      equal-said _ _ _ c.same-3.ensures ∙ c.if-same-3.true,
    )

pub returns : goal.returns
unfolding setting_of
returns c =
    rw (
      equal-said _ _ _ c.same.ensures ∙ c.if-same.false,
      equal-said _ _ _ c.same-2.ensures ∙ c.if-same-2.false,
      equal-said _ _ _ c.same-3.ensures ∙ c.if-same-3.false,
    )
