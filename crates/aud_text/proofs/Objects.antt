-- The objects of a plan's lines, as far as they were read.
use Rattle.std.proofs.Common.{◌≡◌, ℕ, suc, List, [], ◌∷◌, ◌++◌, Result, Ok, Err, append_assoc, refl, ap, ◌∙◌, sym}
use Rattle.aud_event.specs.Meanings.{Declared}
use Rattle.aud_event.specs.declared.signature.Format.{Format}
use Rattle.aud_json.specs.declared.fault.TextFault.{TextFault}
use Rattle.aud_json.specs.declared.fault.TextFault.TheVariants as fault
use Rattle.aud_text.specs.declared.fault.PlanTextFault.{PlanTextFault}
use Rattle.aud_text.specs.Lines.{Filled}
use Rattle.aud_text.specs.PlanText.{at_line, object_read, with_object, objects_read}

-- the objects so far before the later ones
abbrev pub onto : List Declared → Result (List Declared × ℕ) PlanTextFault → Result (List Declared × ℕ) PlanTextFault
onto ds (Err e) = Err e
onto ds (Ok p) = Ok (ds ++ p.0, p.1)

onto-with : (ds : List Declared) (n : ℕ) (o : Declared) (r : Result (List Declared × ℕ) PlanTextFault) → onto ds (with_object n (Ok o) r) ≡ onto (ds ++ o ∷ []) r
onto-with ds n o (Err e) = refl
onto-with ds n o (Ok p) = ap (λ xs. Ok (xs, p.1)) (sym (append_assoc ds (o ∷ []) p.0))

-- one line more
pub one_more : (format : Format) (after used k j : ℕ) (ds : List Declared) (o : Declared) (ls more : List Filled) (l : Filled) → k ≡ suc j → ls ≡ l ∷ more → object_read format l.line ≡ Ok o
    → onto ds (objects_read format after used k ls) ≡ onto (ds ++ o ∷ []) (objects_read format after l.ends j more)
one_more format after used k j ds o ls more l e s r = rw (e, s) (ap (λ x. onto ds (with_object l.number x (objects_read format after l.ends j more))) r ∙ onto-with ds l.number o (objects_read format after l.ends j more))

-- a line that is refused
pub refused : (format : Format) (after used k j : ℕ) (ds : List Declared) (e : TextFault) (ls more : List Filled) (l : Filled) → k ≡ suc j → ls ≡ l ∷ more → object_read format l.line ≡ Err e
    → onto ds (objects_read format after used k ls) ≡ Err (at_line l.number e)
refused format after used k j ds e ls more l is s r = rw (is, s) (ap (λ x. onto ds (with_object l.number x (objects_read format after l.ends j more))) r)

-- a text that ends too early
pub missing : (format : Format) (after used k j : ℕ) (ds : List Declared) (ls : List Filled) → k ≡ suc j → ls ≡ [] → onto ds (objects_read format after used k ls) ≡ Err (at_line after fault.KeyMissing)
missing format after used k j ds ls e s = rw (e, s) refl
