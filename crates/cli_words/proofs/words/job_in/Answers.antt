use Rattle.std.proofs.Common.{◌≡◌, ◌∙◌, List, [], ap, sym, subst, refl, true, map, string_bytes, inl, inr}
use Rattle.clap.specs.Words.{App, Row, Text, is_simple, is_simple_and_free, found_of, rows_of, subcommand_of, fault_of}
use Rattle.clap.specs.Kinds.{Kinds, IsAmong}
use Rattle.clap.specs.declared.error.kind.ErrorKind.{ErrorKind}
use Rattle.clap.proofs.OnLiterals.{clap_on_literals}
use Rattle.cli_words.specs.CommandLine.{opaq_app}
use Rattle.cli_words.specs.Words.{Commands}
use Rattle.cli_words.proofs.Ranges.{in-range}
use Rattle.cli_words.proofs.words.job_in.Goals as goal

simple : is_simple opaq_app ≡ true
unfolding clap_on_literals
simple = refl

free : is_simple_and_free opaq_app ≡ true
unfolding clap_on_literals
free = refl

-- a kind is not among none
not_among : (k : ErrorKind) (ks : Kinds) → ks ≡ [] → IsAmong k ks → ⊥
not_among k ks e h = let P : Kinds → Type 0 = λ xs. IsAmong k xs in subst P e h

pub returns-in-Err-clause-asked : goal.returns-in-Err-clause-asked
returns-in-Err-clause-asked c =
    let words : List Text = map string_bytes c.args.words.now in
    let is = c.in-Ok.ensures in
    let same = ap (λ (a : App). fault_of a words) is in
    elim (c.in-Err.ensures.kinds (ap is_simple_and_free is ∙ free)) [
      | inl memory ↦ inl (c.usage_of.ensures memory)
      | inr among ↦ inr (λ command asked. not_among _ _ (same ∙ asked.taken) among)
    ]

pub returns-in-Ok-Some-clause-asked : goal.returns-in-Ok-Some-clause-asked
returns-in-Ok-Some-clause-asked c =
    let words : List Text = map string_bytes c.args.words.now in
    let is = c.in-Ok.ensures in
    let matches = c.in-Ok-try_get_matches_from.ensures.matches (ap is_simple is ∙ simple) in
    let asks = rw c.in-Ok-Some.field-0-is at c.in-Ok-Some.ensures in
    record {
      name = c.in-Some.name.now;
      rows = rows_of (found_of c.in-Some.inner.now);
      taken = sym (ap (λ (a : App). fault_of a words) is) ∙ c.in-Ok-try_get_matches_from.ensures.kinds (ap is_simple_and_free is ∙ free);
      read = sym (c.in-Some.ensures ∙ (matches.1 ∙ ap (λ (a : App). subcommand_of a words) is));
      asks = asks;
    }

pub returns-in-Ok-None-clause-asked : goal.returns-in-Ok-None-clause-asked
returns-in-Ok-None-clause-asked c =
    let words : List Text = map string_bytes c.args.words.now in
    let is = c.in-Ok.ensures in
    let matches = c.in-Ok-try_get_matches_from.ensures.matches (ap is_simple is ∙ simple) in
    let none = rw c.in-Ok-None.field-0-is at c.in-Ok-None.ensures in
    let read = sym (c.in-Some.ensures ∙ (matches.1 ∙ ap (λ (a : App). subcommand_of a words) is)) in
    inr (λ command asked.
    let both = sym asked.read ∙ read in
    let same : (asked.name, asked.rows) ≡ (c.in-Some.name.now, rows_of (found_of c.in-Some.inner.now)) = cc in
    none command (subst (λ (p : Text × List Row). Commands p.0 p.1 command) same asked.asks))

pub returns-in-Ok-Some-clause-range : goal.returns-in-Ok-Some-clause-range
returns-in-Ok-Some-clause-range c =
    let asks = rw c.in-Ok-Some.field-0-is at c.in-Ok-Some.ensures in
    in-range c.in-Some.name.now (rows_of (found_of c.in-Some.inner.now)) _ asks
