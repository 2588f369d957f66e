-- What a plan and a fact that fits it keep to.
use Rattle.std.proofs.Common.{◌≡◌, ℕ, zero, suc, ◌<◌, ◌≤◌, List, [], ◌∷◌, Bool, true, false, not, ◌&&◌, cond, Option, Some, None, length, option_map, unwrap_or, nat_lt, nat_le, nat_eq, slice_get, refl, ap, ◌∙◌, sym, subst, arith}
use Rattle.std.specs.List.{list_all}
use Rattle.aud_event.specs.Meanings.{Declared, PlanOf}
use Rattle.aud_event.specs.Plans.{first_plan_fault, names_differ, is_name, is_name_byte, is_opening, number_of}
use Rattle.aud_event.specs.Facts.{first_fact_fault, first_event_fault, first_use_fault, has_operation, or_else_fault}
use Rattle.aud_event.specs.Objects.{name_of, is_of_kind, is_in_format, is_answer_of, has_fitting_args}
use Rattle.aud_event.specs.Limits.{most_objects, transactions, most_transactions, places}
use Rattle.aud_event.specs.Rows.{below_most}
use Rattle.aud_event.specs.Laws.{NumberIsOwn}
use Rattle.aud_event.specs.declared.object.OpName.{OpName}
use Rattle.aud_event.specs.declared.plan.PlanFault.TheVariants.{NoLogs, TooManyLogs, TooManyObjects, NameTwice, OpeningRange, BadName}
use Rattle.aud_event.specs.declared.fact.Event.{Event}
use Rattle.aud_event.specs.declared.fact.Event.TheVariants as event
use Rattle.aud_event.specs.declared.fact.EndMark.{EndMark}
use Rattle.aud_event.specs.declared.fact.Record.{Record}
use Rattle.aud_event.specs.declared.fact.Fact.TheVariants.{Rec, End}
use Rattle.aud_event.specs.declared.fact.FactFault.{FactFault}
use Rattle.aud_event.specs.declared.fact.FactFault.TheVariants.{LogRange, AtRange, StampRange, TxRange}
use Rattle.aud_json.specs.Judged.{object_number}
use Rattle.aud_text.specs.Written.{object_name}
use Rattle.base_values.proofs.Bools.{unnegated, and_true}

-- ---- the plan

pub record IsSound (plan : PlanOf) : Type 0 where
  pub few : plan.logs ≤ 64
  pub differ : names_differ plan.objects ≡ true
  pub named : list_all (λ d. is_name d.name) plan.objects ≡ true

passed : {E : Type 0} (b : Bool) (x : E) (y : Option E) → cond b (Some x) y ≡ None → (b ≡ false) × (y ≡ None)
passed true x y e = absurd (cc)
passed false x y e = (refl, e)

pub sound : (plan : PlanOf) → first_plan_fault plan ≡ None → IsSound plan
sound plan e =
    let a = passed (nat_eq plan.logs 0) NoLogs _ e in
    let b = passed (nat_lt 64 plan.logs) TooManyLogs _ a.1 in
    let c = passed (nat_lt 256 (length plan.objects)) TooManyObjects _ b.1 in
    let d = passed (not (names_differ plan.objects)) NameTwice _ c.1 in
    let f = passed (not (list_all is_opening plan.objects)) OpeningRange _ d.1 in
    let g = passed (not (list_all (λ x. is_name x.name) plan.objects)) BadName _ f.1 in
    record { few = grind (arith, b.0); differ = unnegated (names_differ plan.objects) d.0; named = unnegated (list_all (λ x. is_name x.name) plan.objects) g.0 }

-- an object's name is short
pub named_at : (ds : List Declared) (i : ℕ) (d : Declared) → list_all (λ x. is_name x.name) ds ≡ true → slice_get ds i ≡ Some d → is_name d.name ≡ true
named_at [] i d h there = absurd (cc)
named_at (x ∷ xs) zero d h there =
    let same : x ≡ d = cc in subst (λ y. is_name y.name ≡ true) same (and_true (is_name x.name) (list_all (λ y. is_name y.name) xs) h).0
named_at (x ∷ xs) (suc i) d h there = named_at xs i d (and_true (is_name x.name) (list_all (λ y. is_name y.name) xs) h).1 there

pub name_short : (name : List ℕ) → is_name name ≡ true → length name ≤ 32
name_short name h =
    let a = and_true (nat_le 1 (length name) && nat_le (length name) 32) (list_all is_name_byte name) h in
    let b = and_true (nat_le 1 (length name)) (nat_le (length name) 32) a.0 in
    grind (arith, b.1)

-- ---- the object of an event

-- an object that is found by its name, and whose name is short
pub record IsFound (plan : PlanOf) (ob : ℕ) : Type 0 where
  pub number : object_number plan (object_name plan ob) ≡ ob
  pub short : length (object_name plan ob) ≤ 32

found_as : (plan : PlanOf) (ob : ℕ) (d : Declared) → IsSound plan → NumberIsOwn → slice_get plan.objects ob ≡ Some d → IsFound plan ob
found_as plan ob d s own there =
    let name : object_name plan ob ≡ d.name = ap (λ o. unwrap_or (option_map (λ x. x.name) o) []) there in
    let number : number_of d.name plan.objects ≡ Some ob = own plan.objects ob d s.differ there in
    record {
      number = ap (object_number plan) name ∙ ap (λ o. unwrap_or o most_objects) number;
      short = subst (λ n. length n ≤ 32) (sym name) (name_short d.name (named_at plan.objects ob d s.named there));
    }

-- the object is found, and the format has the operation
pub record IsUsed (plan : PlanOf) (ob : ℕ) (o : OpName) : Type 0 where
  pub object : IsFound plan ob
  pub inside : is_in_format plan.format o ≡ true

has_it : (b : Bool) (x : FactFault) → cond b None (Some x) ≡ None → b ≡ true
has_it true x e = refl
has_it false x e = absurd (cc)

used_as : (plan : PlanOf) (ob : ℕ) (o : OpName) (d : Declared) → IsSound plan → NumberIsOwn → slice_get plan.objects ob ≡ Some d → has_operation plan.format d o ≡ true → IsUsed plan ob o
used_as plan ob o d s own there has = record {
  object = found_as plan ob d s own there;
  inside = (and_true (is_of_kind d.kind o) (is_in_format plan.format o) has).1;
}

pub used : (plan : PlanOf) (ob : ℕ) (o : OpName) → IsSound plan → NumberIsOwn → first_use_fault plan.format (slice_get plan.objects ob) o ≡ None → IsUsed plan ob o
used plan ob o s own e = by_get (slice_get plan.objects ob) refl e
  where
    by_get : (g : Option Declared) → slice_get plan.objects ob ≡ g → first_use_fault plan.format g o ≡ None → IsUsed plan ob o
    by_get None same e = absurd (cc)
    by_get (Some d) same e = used_as plan ob o d s own same (has_it (has_operation plan.format d o) _ e)

no_first_fault : (f : Option FactFault) (b : Bool) (last : FactFault) → or_else_fault f b last ≡ None → f ≡ None
no_first_fault (Some f) b last e = absurd (cc)
no_first_fault None b last e = refl

-- the object that the event names is found, and its operation is one of the format
abbrev pub EventFound : PlanOf → Event → Type 0
EventFound plan (event.Inv ob o) = IsUsed plan ob (name_of o)
EventFound plan (event.Ret ob o a) = IsUsed plan ob o
EventFound plan event.TryC = Unit {0}
EventFound plan event.TryA = Unit {0}
EventFound plan event.Commit = Unit {0}
EventFound plan event.Abort = Unit {0}

pub event_found : (plan : PlanOf) (e : Event) → IsSound plan → NumberIsOwn → first_event_fault plan e ≡ None → EventFound plan e
event_found plan (event.Inv ob o) s own h = used plan ob (name_of o) s own (no_first_fault (first_use_fault plan.format (slice_get plan.objects ob) (name_of o)) (has_fitting_args o) _ h)
event_found plan (event.Ret ob o a) s own h = used plan ob o s own (no_first_fault (first_use_fault plan.format (slice_get plan.objects ob) o) (is_answer_of o a) _ h)
event_found plan event.TryC s own h = tt
event_found plan event.TryA s own h = tt
event_found plan event.Commit s own h = tt
event_found plan event.Abort s own h = tt

-- ---- the numbers

pub record RecordInRange (r : Record) : Type 0 where
  pub log : r.log < 4294967296
  pub at : r.at < 4294967296
  pub stamp : r.stamp < 4294967296
  pub tx : r.tx < 4294967296

pub record EndInRange (m : EndMark) : Type 0 where
  pub log : m.log < 4294967296
  pub count : m.count < 4294967296

pub record_in_range : (plan : PlanOf) (r : Record) → IsSound plan → first_fact_fault plan (Rec r) ≡ None → RecordInRange r × (first_event_fault plan r.event ≡ None)
record_in_range plan r s e =
    let a = passed (nat_le plan.logs r.log) LogRange _ e in
    let b = passed (nat_le places r.at) AtRange _ a.1 in
    let c = passed (nat_le 262144 r.stamp) StampRange _ b.1 in
    let d = passed (nat_le (transactions plan.format) r.tx) TxRange _ c.1 in
    let few = s.few in
    let la : r.log < plan.logs = grind (arith, a.0) in
    let lb : r.at < places = grind (arith, b.0) in
    let lc : r.stamp < 262144 = grind (arith, c.0) in
    let lf : r.tx < transactions plan.format = grind (arith, d.0) in
    let ld : r.tx < most_transactions = below_most plan.format r.tx lf in
    (record { log = omega arith; at = omega arith; stamp = omega arith; tx = omega arith }, d.1)

pub end_in_range : (plan : PlanOf) (m : EndMark) → IsSound plan → first_fact_fault plan (End m) ≡ None → EndInRange m
end_in_range plan m s e =
    let a = passed (nat_le plan.logs m.log) LogRange _ e in
    let b = passed (nat_lt places m.count) AtRange _ a.1 in
    let few = s.few in
    let la : m.log < plan.logs = grind (arith, a.0) in
    let lb : m.count ≤ places = grind (arith, b.0) in
    record { log = omega arith; count = omega arith }
