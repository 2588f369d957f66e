use Rattle.std.proofs.Common.{[], subst, sym}
use Rattle.aud_witness.specs.Orders.{Shows}
use Rattle.aud_witness.proofs.Beginnings.{IsGood-from_Shows}
use Rattle.aud_witness.proofs.Good.{Shows-from_IsGood}
use Rattle.aud_witness.proofs.laws.shows_is_full_and_good.Goals as goal
use Rattle.std.proofs.lemmas.List.{append-nil}

pub returns : goal.returns
returns c =
    λ objects h p. (λ s. (s.full, IsGood-from_Shows objects h p [] (subst (λ l. Shows objects h l) (sym (append-nil p)) s)), λ both. Shows-from_IsGood objects h p both.0 both.1)
