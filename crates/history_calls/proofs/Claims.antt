-- The claims, by the model's theorems on any program's calls.
use mathlib.Core.Path.{◌≡◌, refl, sym, ap, ◌∙◌}
use mathlib.Core.Bool.{true}
use mathlib.Core.List.{List}
use Rattle.base_lists.specs.Lists.{keep}
use Rattle.collector_model.specs.View.{View, fresh}
use Rattle.collector_model.specs.History.{Call, Seen}
use Rattle.collector_model.specs.Isolation.{is_entry_of}
use Rattle.collector_model.proofs.States.{states_agree, states_divide, states-left}
use Rattle.collector_model.proofs.Struck.{states_isolated}
use Rattle.collector_state.specs.declared.Collector.{Collector}
use Rattle.collector_state.specs.Collector.{view_of, IsFresh}
use Rattle.c_collector.specs.State.{Arrays, state_at, arrays_of}
use Rattle.c_collector.specs.Calls.{Fresh}
use Rattle.c_collector.proofs.State.{taken}
use Rattle.history_calls.specs.Elements.{arrays_after_all}
use Rattle.history_calls.specs.Arrays.{ArraysShow}
use Rattle.history_calls.specs.Arrays as lent
use Rattle.history_calls.specs.Values.{ValuesShow}
use Rattle.history_calls.specs.Values as value
use Rattle.history_calls.specs.Claims.{Agree, Divide, Left, Isolate, ArraysAgree, ArraysDivide, ArraysLeft, ArraysIsolated, ArraysElements, ValuesAgree, ValuesDivide, ValuesLeft, ValuesIsolated, ValuesElements}
use Rattle.history_calls.proofs.Elements.{took, restored, resumed, bursted, took_value, restored-value, resumed-value, bursted_value}
use Rattle.history_calls.proofs.Follow.{Followed, arrays_follow, values_follow}

-- ---- of calls that follow the model

module _ {State : Type 0} (view : State → View) (IsStart : State → Type 0)
    (Show : State → List Call → List Seen → State → Type 0)
    (starts : (c : State) → IsStart c → view c ≡ fresh)
    (follow : (c e : State) (h : List Call) (l : List Seen) → Show c h l e → Followed view c h l e) where
  agree : Agree view IsStart Show
  agree h ok c d c' d' p q l m t u =
      states_agree view h ok c d (starts c p) (starts d q) l m (follow c c' h l t).0 (follow d d' _ m u).0

  divide : Divide view IsStart Show
  divide h h' ok ok' e c d c' d' p q l m t u =
      states_divide view h h' ok ok' e c d (starts c p) (starts d q) l m (follow c c' h l t).0 (follow d d' h' m u).0

  left : Left view IsStart Show
  left h ok c c' p l t =
      let f = follow c c' h l t in
      sym (ap view f.1) ∙ states-left view h ok c (starts c p) l f.0

  isolate : Isolate view IsStart Show
  isolate x h ok quiet c d c' d' p q l m t u =
      let f = follow c c' h l t in
      let g = follow d d' _ m u in
      let is = states_isolated view x h ok quiet c d (starts c p) (starts d q) l m f.0 g.0 in
      record {
        replies = is.replies;
        entries = λ newest.
            sym (ap (λ (s : State). keep (is_entry_of x) (view s).entries) f.1)
            ∙ is.entries newest ∙ ap (λ (s : State). (view s).entries) g.1;
      }

-- ---- on lent arrays

arrays_start : (s : Arrays) → Fresh s → state_at s ≡ fresh
arrays_start s f = f.state

arrays_followed : (s e : Arrays) (h : List Call) (l : List Seen) → ArraysShow s h l e → Followed state_at s h l e
arrays_followed s e h l t = arrays_follow t

pub arrays_agree : ArraysAgree
arrays_agree = agree state_at Fresh ArraysShow arrays_start arrays_followed

pub arrays_divide : ArraysDivide
arrays_divide = divide state_at Fresh ArraysShow arrays_start arrays_followed

pub arrays-left : ArraysLeft
arrays-left = left state_at Fresh ArraysShow arrays_start arrays_followed

pub arrays_isolated : ArraysIsolated
arrays_isolated = isolate state_at Fresh ArraysShow arrays_start arrays_followed

lent-elements : {s e : Arrays} {h : List Call} {l : List Seen} → ArraysShow s h l e → e ≡ arrays_after_all s h
lent-elements lent.ended = refl
lent-elements (lent.received {setting = setting} {h = h} k t u) =
    lent-elements u ∙ ap (λ (s : Arrays). arrays_after_all s h) (took setting k)
lent-elements (lent.told {s = s} {s' = s'} {setting = setting} {n = n} {r = r} {h = h} ok k t u) =
    lent-elements u ∙ ap (λ (x : Arrays). arrays_after_all x h) (took setting (taken true s s' r n (sym ok) k))
lent-elements (lent.saved k t u) = lent-elements u
lent-elements (lent.restored {h = h} k t u) = lent-elements u ∙ ap (λ (s : Arrays). arrays_after_all s h) (restored k)
lent-elements (lent.resumed {s = s} {output = output} {h = h} k t z q w u) =
    lent-elements u ∙ ap (λ (x : Arrays). arrays_after_all x h) (resumed s output k z q)
lent-elements (lent.delivered {h = h} sized k t u) =
    lent-elements u ∙ ap (λ (s : Arrays). arrays_after_all s h) (bursted sized k)
lent-elements (lent.asked a t u) = lent-elements u
lent-elements (lent.looked t u) = lent-elements u

pub arrays-elements : ArraysElements
arrays-elements h s s' l t = lent-elements t

-- ---- by value

values_start : (c : Collector) → IsFresh c → view_of c ≡ fresh
values_start c f = f.state

values_followed : (c e : Collector) (h : List Call) (l : List Seen) → ValuesShow c h l e → Followed view_of c h l e
values_followed c e h l t = values_follow t

pub values_agree : ValuesAgree
values_agree = agree view_of IsFresh ValuesShow values_start values_followed

pub values_divide : ValuesDivide
values_divide = divide view_of IsFresh ValuesShow values_start values_followed

pub values-left : ValuesLeft
values-left = left view_of IsFresh ValuesShow values_start values_followed

pub values_isolated : ValuesIsolated
values_isolated = isolate view_of IsFresh ValuesShow values_start values_followed

value-elements : {c e : Collector} {h : List Call} {l : List Seen}
    → ValuesShow c h l e → arrays_of e ≡ arrays_after_all (arrays_of c) h
value-elements value.ended = refl
value-elements (value.received {setting = setting} {h = h} t q k sent u) =
    value-elements u ∙ ap (λ (s : Arrays). arrays_after_all s h) (took_value setting k)
value-elements (value.saved s k u) = value-elements u
value-elements (value.restored {h = h} q k u) =
    value-elements u ∙ ap (λ (s : Arrays). arrays_after_all s h) (restored-value k)
value-elements (value.resumed {c = c} {output = output} {h = h} s q k z w u) =
    value-elements u ∙ ap (λ (x : Arrays). arrays_after_all x h) (resumed-value c output k z w)
value-elements (value.delivered {h = h} b k u) =
    value-elements u ∙ ap (λ (s : Arrays). arrays_after_all s h) (bursted_value k)
value-elements (value.asked a k u) = value-elements u
value-elements (value.looked u) = value-elements u

pub values-elements : ValuesElements
values-elements h c c' l t = value-elements t
