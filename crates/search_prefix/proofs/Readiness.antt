-- Which choices may be good, by what is placed.
use Rattle.std.specs.Prelude.{◌≡◌, ℕ, zero, suc, ◌+◌, ◌-◌, ◌<◌, ◌≤◌, Bool, true, false, not, ◌||◌, nat_eq, nat_lt, List, [], ◌∷◌, ◌++◌, map, length, replicate, Option, Some, None, slice_get, slice_index_or, slice_set, take, MatchOption, refl}
use Rattle.std.specs.List.{list_any, list_all, position, position_or_len}
use Rattle.std.proofs.Common.{sym, ◌∙◌, ap, subst, cond, inl, inr, arith, get_or, set, length-set, ◌⊎◌}
use Rattle.std.proofs.lemmas.Bool.Decides.{nat_tests}
use Rattle.std.proofs.lemmas.List.Sums.{position_or_len_is}
use Rattle.std.proofs.lemmas.List.{get_or_past, get_or-set_same, get_or-set_other, length-map}
use Rattle.std.proofs.lemmas.Option.{slice_get_within, slice_get_read, get_or_from_slice_get}
use Rattle.base_values.proofs.Bools.{and_true, true_and, or_true, or_right, true_or, not_true, is_false, split, nat_eq-refl, nat_eq-is}
use Rattle.aud_history.specs.Histories.{History, is_before}
use Rattle.aud_history.specs.Table.{RowOf, transactions, row_of, table_of}
use Rattle.aud_history.proofs.Tables.{are_different, different-transactions}
use Rattle.aud_history.proofs.Numbers.{tx-rows}
use Rattle.aud_witness.specs.declared.decision.Fate.{Fate}
use Rattle.aud_witness.specs.declared.decision.Fate.TheVariants.{C, A}
use Rattle.aud_witness.specs.declared.decision.Decision.{Decision}
use Rattle.aud_witness.specs.Orders.{is_named}
use Rattle.aud_witness.specs.OrderFaults.{is_enabled}
use Rattle.aud_witness.proofs.Bridge.{named-at}
use Rattle.aud_witness.proofs.Beginnings.{is_named-append}
use Rattle.aud_order.specs.Shapes.{ShapeOf, objects_of, history_of}
use Rattle.aud_order.specs.Cursors.{CursorOf, IsGoodAt}
use Rattle.aud_order.proofs.KidLemmas.{late-after}
use Rattle.aud_order.proofs.SilentRows.{row-found}
use Rattle.search_memo.specs.declared.choice.Choice.{Choice}
use Rattle.search_prefix.specs.declared.ready.RowChoices.{RowChoices}
use Rattle.search_memo.specs.Choices.{AreChoices}
use Rattle.search_prefix.specs.Readiness.{ReadyOf, chosen, no_choices, HasRows, HoldsBack, IsReady, IsReadyAfter, IsReadyBefore, IsRowMarked}
use Rattle.search_prefix.proofs.Steps.{AreBad, Follows, ready-good, no_choice, choice-at, went-back}

-- # Rows

-- the row at a place is of the transaction there
row-of : (h : History) (ts : List ℕ) (k : ℕ) (r : RowOf) → slice_get (map (row_of h) ts) k ≡ Some r → (k < length ts) × (get_or ts k 0 ≡ r.tx)
row-of h [] k r at = absurd (cc)
row-of h (t ∷ ts) zero r at = (omega arith, (let same : row_of h t ≡ r = cc in ap (λ (x : RowOf). x.tx) same))
row-of h (t ∷ ts) (suc k) r at = let rest = row-of h ts k r at in (omega (arith, rest.0), rest.1)

-- what stands at two places is different
apart-at : (ts : List ℕ) (j k : ℕ) → are_different ts ≡ true → j < k → k < length ts → nat_eq (get_or ts k 0) (get_or ts j 0) ≡ false
apart-at [] j k differ before inside = absurd (omega arith)
apart-at (t ∷ ts) j zero differ before inside = absurd (omega arith)
apart-at (t ∷ ts) (suc j) (suc k) differ before inside =
    apart-at ts j k (and_true (not (list_any (nat_eq t) ts)) (are_different ts) differ).1 (omega arith) (omega arith)
apart-at (t ∷ ts) zero (suc k) differ before inside =
    is_false (nat_eq (get_or ts k 0) t) (λ same.
    let there : list_any (nat_eq (get_or ts k 0)) ts ≡ true = any-at ts k (omega arith) in
    let here : list_any (nat_eq t) ts ≡ true = subst (λ n. list_any (nat_eq n) ts ≡ true) (nat_eq-is (get_or ts k 0) t same) there in
    let none : list_any (nat_eq t) ts ≡ false = not_true (list_any (nat_eq t) ts) (and_true (not (list_any (nat_eq t) ts)) (are_different ts) differ).0 in
    cc)
  where
    any-at : (us : List ℕ) (i : ℕ) → i < length us → list_any (nat_eq (get_or us i 0)) us ≡ true
    any-at [] i below = absurd (omega arith)
    any-at (u ∷ us) zero below = true_or (nat_eq u u) (list_any (nat_eq u) us) (nat_eq-refl u)
    any-at (u ∷ us) (suc i) below = or_right (nat_eq (get_or us i 0) u) (list_any (nat_eq (get_or us i 0)) us) (any-at us i (omega arith))

-- a transaction is found at its own place
position-at : (ts : List ℕ) (k : ℕ) → are_different ts ≡ true → k < length ts → position (nat_eq (get_or ts k 0)) ts ≡ Some k
position-at ts k differ inside =
    let is : position_or_len (nat_eq (get_or ts k 0)) ts ≡ k =
    position_or_len_is (nat_eq (get_or ts k 0)) ts k 0 (omega arith) (λ j before. apart-at ts j k differ before inside) (λ _. nat_eq-refl (get_or ts k 0)) in
    let below : nat_lt k (length ts) ≡ true = grind (arith, nat_tests) in
    ap (λ n. cond (nat_lt n (length ts)) (Some n) None) is ∙ ap (λ b. cond b (Some k) None) below

only-row : (h : History) (t k : ℕ) (r : RowOf) → slice_get (table_of h) k ≡ Some r → r.tx ≡ t → position (nat_eq t) (map (λ (x : RowOf). x.tx) (table_of h)) ≡ Some k
only-row h t k r at is =
    let (inside, tx) = row-of h (transactions h) k r at in
    ap (position (nat_eq t)) (tx-rows h (transactions h)) ∙ ap (λ n. position (nat_eq n) (transactions h)) (sym (tx ∙ is))
    ∙ position-at (transactions h) k (different-transactions h) inside

-- # Longer prefixes

pub named-on : (p : List Decision) (d : Decision) (t : ℕ) → is_named p t ≡ true → is_named (p ++ d ∷ []) t ≡ true
named-on p d t named = is_named-append p (d ∷ []) t ∙ true_or (is_named p t) (is_named (d ∷ []) t) named

pub named-own : (p : List Decision) (d : Decision) (t : ℕ) → d.tx ≡ t → is_named (p ++ d ∷ []) t ≡ true
named-own p d t own =
    is_named-append p (d ∷ []) t
    ∙ or_right (is_named p t) (is_named (d ∷ []) t) (true_or (nat_eq d.tx t) false (subst (λ n. nat_eq d.tx n ≡ true) own (nat_eq-refl d.tx)))

named-back : (p : List Decision) (d : Decision) (t : ℕ) → is_named (p ++ d ∷ []) t ≡ true → (is_named p t ≡ true) ⊎ (d.tx ≡ t)
named-back p d t named =
    elim (or_true (is_named p t) (is_named (d ∷ []) t) (sym (is_named-append p (d ∷ []) t) ∙ named)) [
      | inl before ↦ inl before
      | inr last ↦ elim (or_true (nat_eq d.tx t) false last) [ inl own ↦ inr (nat_eq-is d.tx t own) | inr no_more ↦ absurd (cc) ]
    ]

-- what waits after a longer prefix waits after a shorter one
late-back : (h : History) (p : List Decision) (d : Decision) (u : ℕ) → is_enabled h (p ++ d ∷ []) u ≡ false → is_enabled h p u ≡ false
late-back h p d u late = is_false (is_enabled h p u) (λ enabled. let more : is_enabled h (p ++ d ∷ []) u ≡ true = go h enabled in cc)
  where
    go : (es : History) → list_all (λ e. not (is_before h e.0 u) || is_named p e.0) es ≡ true → list_all (λ e. not (is_before h e.0 u) || is_named (p ++ d ∷ []) e.0) es ≡ true
    go [] all = refl
    go (e ∷ es) all =
        let both = and_true (not (is_before h e.0 u) || is_named p e.0) (list_all (λ x. not (is_before h x.0 u) || is_named p x.0) es) all in
        let first : (not (is_before h e.0 u) || is_named (p ++ d ∷ []) e.0) ≡ true = elim (or_true (not (is_before h e.0 u)) (is_named p e.0) both.0) [
          | inl apart ↦ true_or (not (is_before h e.0 u)) (is_named (p ++ d ∷ []) e.0) apart
          | inr named ↦ or_right (not (is_before h e.0 u)) (is_named (p ++ d ∷ []) e.0) (named-on p d e.0 named)
        ] in
        true_and (not (is_before h e.0 u) || is_named (p ++ d ∷ []) e.0) (list_all (λ x. not (is_before h x.0 u) || is_named (p ++ d ∷ []) x.0) es) first (go es both.1)

-- # The places of the rows' choices

fates : (f e : Fate) → (f ≡ e) ⊎ (f ≡ e → ⊥)
fates C C = inl refl
fates C A = inr (λ is. absurd (cc))
fates A C = inr (λ is. absurd (cc))
fates A A = inl refl

pub rows-none : (cs : List Choice) (count : ℕ) → HasRows cs 0 (replicate count no_choices)
rows-none cs count = record { sound = λ i k f at. absurd (nothing i k f at); whole = λ k c below at. absurd (omega arith) }
  where
    none-at : (n i : ℕ) (f : Fate) → chosen (get_or (replicate n no_choices) i no_choices) f ≡ None
    none-at zero i C = refl
    none-at zero i A = refl
    none-at (suc n) zero C = refl
    none-at (suc n) zero A = refl
    none-at (suc n) (suc i) f = none-at n i f

    nothing : (i k : ℕ) (f : Fate) → chosen (slice_index_or (replicate count no_choices) i no_choices) f ≡ Some k → ⊥
    nothing i k f at = let none = none-at count i f in let clash : None ≡ Some k = sym none ∙ at in absurd (cc)

at-row : (rows : List RowChoices) (i : ℕ) (r : RowChoices) → i < length rows → r ≡ slice_index_or rows i r → slice_index_or rows i no_choices ≡ r
at-row rows i r inside is = get_or_from_slice_get rows i r no_choices (slice_get_read rows (length rows) i r refl inside is)

-- one choice more is put into its row
pub rows-more : (h : History) (cs : List Choice) (n : ℕ) (c : Choice) (rows : List RowChoices) (old new : RowChoices) → AreChoices h cs → HasRows cs n rows → slice_get cs n ≡ Some c → c.place < length rows → old ≡ slice_index_or rows c.place old →
    chosen new c.decision.fate ≡ Some n → ((f : Fate) → (f ≡ c.decision.fate → ⊥) → chosen new f ≡ chosen old f) → HasRows cs (n + 1) (set rows c.place new)
rows-more h cs n c rows old new choices has at inside stood own kept = record {
  sound = λ i k f is. sound i k f is (split (nat_eq i c.place));
  whole = λ k e below there. whole k e below there (split (nat_eq e.place c.place)) (split (nat_lt k n));
}
  where
    other : (f : Fate) → (f ≡ c.decision.fate → ⊥) → chosen new f ≡ chosen (slice_index_or rows c.place no_choices) f
    other f apart = kept f apart ∙ ap (λ r. chosen r f) (sym (at-row rows c.place old inside stood))

    here : slice_index_or (set rows c.place new) c.place no_choices ≡ new
    here = get_or-set_same rows c.place new no_choices inside

    elsewhere : (i : ℕ) → nat_eq i c.place ≡ false → slice_index_or (set rows c.place new) i no_choices ≡ slice_index_or rows i no_choices
    elsewhere i apart = get_or-set_other rows c.place i new no_choices (λ same. let clash : nat_eq i c.place ≡ true = subst (λ m. nat_eq m c.place ≡ true) (sym same) (nat_eq-refl c.place) in absurd (cc))

    IsSound : ℕ → ℕ → Fate → Type 0
    IsSound i k f = (e : Choice) × ((k < n + 1) × (slice_get cs k ≡ Some e) × (e.place ≡ i) × (e.decision.fate ≡ f))

    older : (i k : ℕ) (f : Fate) → chosen (slice_index_or rows i no_choices) f ≡ Some k → IsSound i k f
    older i k f is = let (e, (below, there, place, fate)) = has.sound i k f is in (e, (omega (arith, below), there, place, fate))

    sound : (i k : ℕ) (f : Fate) → chosen (slice_index_or (set rows c.place new) i no_choices) f ≡ Some k → (nat_eq i c.place ≡ true) ⊎ (nat_eq i c.place ≡ false) → IsSound i k f
    sound i k f is (inr apart) = older i k f (ap (λ r. chosen r f) (sym (elsewhere i apart)) ∙ is)
    sound i k f is (inl same) =
        let place : i ≡ c.place = nat_eq-is i c.place same in
        let now : chosen new f ≡ Some k = ap (λ r. chosen r f) (sym (ap (λ m. slice_index_or (set rows c.place new) m no_choices) place ∙ here)) ∙ is in
        elim (fates f c.decision.fate) [
          | inl fate ↦
              let some : Some n ≡ Some k = sym own ∙ ap (chosen new) (sym fate) ∙ now in
              let number : n ≡ k = cc in
              (c, (omega (arith, number), subst (λ m. slice_get cs m ≡ Some c) number at, sym place, sym fate))
          | inr apart ↦ older i k f (ap (λ m. chosen (slice_index_or rows m no_choices) f) place ∙ sym (other f apart) ∙ now)
        ]

    -- two choices of a row have different fates
    twice : (k : ℕ) (e : Choice) → k < n → slice_get cs k ≡ Some e → e.place ≡ c.place → e.decision.fate ≡ c.decision.fate → ⊥
    twice k e below there place fate =
        let (r, (row, tx)) = choices.rows k e there in
        let (s, (row_c, tx_c)) = choices.rows n c at in
        let some : Some r ≡ Some s = sym row ∙ ap (slice_get (table_of h)) place ∙ row_c in
        let same : r ≡ s = cc in
        let number : e.decision.tx ≡ c.decision.tx = sym tx ∙ ap (λ (x : RowOf). x.tx) same ∙ tx_c in
        choices.once k n e c below there at (λ i. record { tx = number i; fate = fate i })

    IsWhole : ℕ → Choice → Type 0
    IsWhole k e = chosen (slice_index_or (set rows c.place new) e.place no_choices) e.decision.fate ≡ Some k

    whole : (k : ℕ) (e : Choice) → k < n + 1 → slice_get cs k ≡ Some e → (nat_eq e.place c.place ≡ true) ⊎ (nat_eq e.place c.place ≡ false) → (nat_lt k n ≡ true) ⊎ (nat_lt k n ≡ false) → IsWhole k e
    whole k e below there (inr apart) (inl before) =
        let low : k < n = grind (arith, nat_tests) in ap (λ r. chosen r e.decision.fate) (elsewhere e.place apart) ∙ has.whole k e low there
    whole k e below there (inl same) (inl before) =
        let low : k < n = grind (arith, nat_tests) in
        let place : e.place ≡ c.place = nat_eq-is e.place c.place same in
        let apart : e.decision.fate ≡ c.decision.fate → ⊥ = twice k e low there place in
        ap (λ m. chosen (slice_index_or (set rows c.place new) m no_choices) e.decision.fate) place ∙ ap (λ r. chosen r e.decision.fate) here
        ∙ other e.decision.fate apart ∙ ap (λ m. chosen (slice_index_or rows m no_choices) e.decision.fate) (sym place) ∙ has.whole k e low there
    whole k e below there place (inr behind) =
        let last : k ≡ n = grind (arith, nat_tests) in
        let some : Some e ≡ Some c = sym there ∙ ap (slice_get cs) last ∙ at in
        let same : e ≡ c = cc in
        subst (λ (x : Choice). IsWhole k x) (sym same) (subst (λ m. IsWhole m c) (sym last) (ap (λ r. chosen r c.decision.fate) here ∙ own))

pub rows-all : (cs : List Choice) (n : ℕ) (rows : List RowChoices) → HasRows cs n rows → length cs ≤ n → HasRows cs (length cs) rows
rows-all cs n rows has past = record {
  sound = λ i k f is. (let (e, (below, there, place, fate)) = has.sound i k f is in (e, (slice_get_within cs k e there, there, place, fate)));
  whole = λ k c below there. has.whole k c (omega arith) there;
}

-- # The marks of a row

-- the mark of a place is written, where there is one
abbrev pub IsSet : List Bool → List Bool → Option ℕ → Bool → Type 0
IsSet old new o mark = MatchOption o (new ≡ old) (λ k. new ≡ slice_set old k mark)

pub set-long : (old new : List Bool) (o : Option ℕ) (mark : Bool) → IsSet old new o mark → length new ≡ length old
set-long old new None mark is = ap length is
set-long old new (Some k) mark is = ap length is ∙ length-set old k mark

set-own : (old new : List Bool) (o : Option ℕ) (mark : Bool) (k : ℕ) → IsSet old new o mark → o ≡ Some k → k < length old → get_or new k false ≡ mark
set-own old new None mark k is own inside = absurd (cc)
set-own old new (Some j) mark k is own inside =
    let same : j ≡ k = cc in
    ap (λ l. get_or l k false) is ∙ ap (λ m. get_or (set old m mark) k false) same ∙ get_or-set_same old k mark false inside

set-apart : (old new : List Bool) (o : Option ℕ) (mark : Bool) (k : ℕ) → IsSet old new o mark → (o ≡ Some k → ⊥) → get_or new k false ≡ get_or old k false
set-apart old new None mark k is apart = ap (λ l. get_or l k false) is
set-apart old new (Some j) mark k is apart = ap (λ l. get_or l k false) is ∙ get_or-set_other old j k mark false (λ same. apart (ap (λ m. Some m) (sym same)))

set-still : (old new : List Bool) (o : Option ℕ) (mark : Bool) (k : ℕ) → IsSet old new o mark → k < length old → get_or old k false ≡ mark → get_or new k false ≡ mark
set-still old new None mark k is inside own = ap (λ l. get_or l k false) is ∙ own
set-still old new (Some j) mark k is inside own =
    elim (split (nat_eq j k)) [
      | inl same ↦ set-own old new (Some j) mark k is (ap (λ m. Some m) (nat_eq-is j k same)) inside
      | inr other ↦ set-apart old new (Some j) mark k is (λ some. let same : j ≡ k = cc in let clash : nat_eq j k ≡ true = subst (λ m. nat_eq j m ≡ true) same (nat_eq-refl j) in absurd (cc)) ∙ own
    ]

pub mark-inside : (cs : List Choice) (rows : List RowChoices) (marks : List Bool) (i : ℕ) (r : RowChoices) (f : Fate) → HasRows cs (length cs) rows → length marks ≡ length cs → i < length rows → r ≡ slice_index_or rows i r →
    MatchOption (chosen r f) (Unit {0}) (λ k. k < length marks)
mark-inside cs rows marks i r f has long inside is = go (chosen r f) refl
  where
    go : (o : Option ℕ) → chosen r f ≡ o → MatchOption o (Unit {0}) (λ k. k < length marks)
    go None e = tt
    go (Some k) e = let (c, (below, there, place, fate)) = has.sound i k f (ap (λ x. chosen x f) (at-row rows i r inside is) ∙ e) in omega (arith, below, long)

pub row-marked : (old new : ReadyOf) (rows : List RowChoices) (r : RowChoices) (mid : List Bool) (row : ℕ) (mark : Bool) → HasRows old.choices (length old.choices) rows → length old.marks ≡ length old.choices →
    row < length rows → r ≡ slice_index_or rows row r → IsSet old.marks mid r.commit mark → IsSet mid new.marks r.abort mark → new.shape ≡ old.shape → new.choices ≡ old.choices → new.begun ≡ old.begun → IsRowMarked old new row mark
row-marked old new rows r mid row mark has long inside is first second shape choices begun = record {
  shape = shape;
  choices = choices;
  begun = begun;
  written = λ k c at. elim (split (nat_eq c.place row)) as (λ o. slice_index_or new.marks k false ≡ cond (nat_eq c.place row) mark (slice_index_or old.marks k false)) [
    | inl same ↦ own k c at (nat_eq-is c.place row same) c.decision.fate refl ∙ sym (ap (λ b. cond b mark (slice_index_or old.marks k false)) same)
    | inr apart ↦ other k c at apart ∙ sym (ap (λ b. cond b mark (slice_index_or old.marks k false)) apart)
  ];
}
  where
    within : (k : ℕ) (c : Choice) → slice_get old.choices k ≡ Some c → k < length old.marks
    within k c at = omega (arith, long, slice_get_within old.choices k c at)

    own : (k : ℕ) (c : Choice) → slice_get old.choices k ≡ Some c → c.place ≡ row → (f : Fate) → c.decision.fate ≡ f → slice_index_or new.marks k false ≡ mark
    own k c at place f fate =
        let here : chosen r f ≡ Some k =
        ap (λ x. chosen x f) (sym (at-row rows row r inside is)) ∙ ap (λ m. chosen (slice_index_or rows m no_choices) f) (sym place)
        ∙ ap (chosen (slice_index_or rows c.place no_choices)) (sym fate) ∙ has.whole k c (slice_get_within old.choices k c at) at in
        by f here
      where
        by : (f : Fate) → chosen r f ≡ Some k → slice_index_or new.marks k false ≡ mark
        by C here = set-still mid new.marks r.abort mark k second (omega (arith, set-long old.marks mid r.commit mark first, within k c at)) (set-own old.marks mid r.commit mark k first here (within k c at))
        by A here = set-own mid new.marks r.abort mark k second here (omega (arith, set-long old.marks mid r.commit mark first, within k c at))

    other : (k : ℕ) (c : Choice) → slice_get old.choices k ≡ Some c → nat_eq c.place row ≡ false → slice_index_or new.marks k false ≡ slice_index_or old.marks k false
    other k c at apart = set-apart mid new.marks r.abort mark k second (λ some. strange A some) ∙ set-apart old.marks mid r.commit mark k first (λ some. strange C some)
      where
        strange : (f : Fate) → chosen r f ≡ Some k → ⊥
        strange f some =
            let (e, (below, there, place, fate)) = has.sound row k f (ap (λ x. chosen x f) (at-row rows row r inside is) ∙ some) in
            let same_choice : Some e ≡ Some c = sym there ∙ at in
            let same : e ≡ c = cc in
            let clash : nat_eq c.place row ≡ true = subst (λ m. nat_eq c.place m ≡ true) (ap (λ (x : Choice). x.place) (sym same) ∙ place) (nat_eq-refl c.place) in
            absurd (cc)

-- a row that is not there has no choices
pub row-past : (old : ReadyOf) (rows : List RowChoices) (row : ℕ) (mark : Bool) → HasRows old.choices (length old.choices) rows → length rows ≤ row → IsRowMarked old old row mark
row-past old rows row mark has past = record {
  shape = refl;
  choices = refl;
  begun = refl;
  written = λ k c at. elim (split (nat_eq c.place row)) [
    | inl same ↦
        let none : slice_index_or rows c.place no_choices ≡ no_choices = get_or_past rows c.place no_choices (let place = nat_eq-is c.place row same in omega (arith, place, past)) in
        let clash : chosen no_choices c.decision.fate ≡ Some k = ap (λ x. chosen x c.decision.fate) (sym none) ∙ has.whole k c (slice_get_within old.choices k c at) at in
        absurd (nothing c.decision.fate k clash)
    | inr apart ↦ sym (ap (λ b. cond b mark (slice_index_or old.marks k false)) apart)
  ];
}
  where
    nothing : (f : Fate) (k : ℕ) → chosen no_choices f ≡ Some k → ⊥
    nothing C k is = absurd (cc)
    nothing A k is = absurd (cc)

-- # Where a cursor goes

pub not-open : (r : ReadyOf) (cur : CursorOf) (k : ℕ) (c : Choice) → AreChoices (history_of cur.shape) r.choices → IsReady r cur → slice_get r.choices k ≡ Some c → slice_index_or r.marks k false ≡ false → IsGoodAt cur c.decision → ⊥
not-open r cur k c choices ready at none good =
    elim (ready.all.left k c at none) [
      | inl named ↦ (let fresh : is_named cur.path c.decision.tx ≡ false = good.new in cc)
      | inr behind ↦
          let h = history_of cur.shape in
          let (row, (there, tx)) = choices.rows k c at in
          let (inside, is) = row-of h (transactions h) c.place row there in
          let first : is_enabled h cur.path (get_or (transactions h) r.begun 0) ≡ false = ready.late (omega (arith, length-map (transactions h) (row_of h))) in
          let late : is_enabled h cur.path (get_or (transactions h) c.place 0) ≡ false = late-after h cur.path r.begun c.place 0 behind inside first in
          let seen : is_enabled h cur.path c.decision.tx ≡ false = ap (is_enabled h cur.path) (sym (is ∙ tx)) ∙ late in
          let enabled = and_true (not (is_named cur.path c.decision.tx)) (is_enabled h cur.path c.decision.tx) (ready-good (objects_of cur.shape) h cur.path c.decision good) in
          let is_so : is_enabled h cur.path c.decision.tx ≡ true = enabled.1 in
          cc
    ]

-- the choices of a row are those of its transaction
of-row : (h : History) (cs : List Choice) (k : ℕ) (c : Choice) (t row : ℕ) → AreChoices h cs → slice_get cs k ≡ Some c → position (nat_eq t) (map (λ (x : RowOf). x.tx) (table_of h)) ≡ Some row → c.place ≡ row → t ≡ c.decision.tx
of-row h cs k c t row choices at found place =
    let (r, (there, tx)) = choices.rows k c at in
    let (own, _) = row-found h t row found in
    let some : Some (row_of h t) ≡ Some r = sym own ∙ ap (slice_get (table_of h)) (sym place) ∙ there in
    let same : row_of h t ≡ r = cc in
    ap (λ (x : RowOf). x.tx) same ∙ tx

row-of_own : (h : History) (cs : List Choice) (k : ℕ) (c : Choice) (t : ℕ) → AreChoices h cs → slice_get cs k ≡ Some c → t ≡ c.decision.tx → position (nat_eq t) (map (λ (x : RowOf). x.tx) (table_of h)) ≡ Some c.place
row-of_own h cs k c t choices at own = let (r, (there, tx)) = choices.rows k c at in only-row h t c.place r there (tx ∙ sym own)

-- marks written and not written, in new terms
unmarked : (old new : ReadyOf) (row : ℕ) (mark : Bool) (k : ℕ) (c : Choice) → IsRowMarked old new row mark → slice_get new.choices k ≡ Some c → slice_index_or new.marks k false ≡ false →
    ((c.place ≡ row) × (mark ≡ false)) ⊎ ((c.place ≡ row → ⊥) × (slice_index_or old.marks k false ≡ false) × (slice_get old.choices k ≡ Some c))
unmarked old new row mark k c marked at none =
    let there : slice_get old.choices k ≡ Some c = ap (λ l. slice_get l k) (sym marked.choices) ∙ at in
    let is = marked.written k c there in
    elim (split (nat_eq c.place row)) [
      | inl same ↦ inl (nat_eq-is c.place row same, sym (is ∙ ap (λ b. cond b mark (slice_index_or old.marks k false)) same) ∙ none)
      | inr apart ↦ inr (
        (λ place. let clash : nat_eq c.place row ≡ true = subst (λ n. nat_eq c.place n ≡ true) place (nat_eq-refl c.place) in absurd (cc)),
        sym (is ∙ ap (λ b. cond b mark (slice_index_or old.marks k false)) apart) ∙ none,
        there,
      )
    ]

pub left-start : (r : ReadyOf) (at : CursorOf) → r.shape ≡ at.shape → r.begun ≡ 0 → HoldsBack r at
left-start r at shape none = record { shape = shape; inside = omega (arith, none); left = λ k c there unmarked. inr (omega (arith, none)) }

-- a transaction was placed that has no choice
pub left-on_none : (r : ReadyOf) (at : CursorOf) (d : Decision) → IsReadyAfter r at d → HoldsBack r at
left-on_none r at d (p, (path, ready)) = record {
  shape = ready.all.shape;
  inside = ready.all.inside;
  left = λ k c there none. elim (ready.all.left k c there none) [
    | inl named ↦ inl (subst (λ l. is_named l c.decision.tx ≡ true) (sym path) (named-on p d c.decision.tx named))
    | inr behind ↦ inr behind
  ];
}

pub left-on : (old new : ReadyOf) (at : CursorOf) (d : Decision) (row : ℕ) → AreChoices (history_of at.shape) old.choices → IsReadyAfter old at d →
    position (nat_eq d.tx) (map (λ (x : RowOf). x.tx) (table_of (history_of at.shape))) ≡ Some row → IsRowMarked old new row false → HoldsBack new at
left-on old new at d row choices behind found marked =
    let older = left-on_none old at d behind in record {
      shape = marked.shape ∙ older.shape;
      inside = subst (λ n. n ≤ length (table_of (history_of at.shape))) (sym marked.begun) older.inside;
      left = λ k c there none. elim (unmarked old new row false k c marked there none) [
        | inl own ↦
            let earlier : slice_get old.choices k ≡ Some c = ap (λ l. slice_get l k) (sym marked.choices) ∙ there in
            inl (subst (λ l. is_named l c.decision.tx ≡ true) (sym behind.1.0) (named-own behind.0 d c.decision.tx (of-row (history_of at.shape) old.choices k c d.tx row choices earlier found own.0)))
        | inr other ↦ elim (older.left k c other.2 other.1) [ inl named ↦ inl named | inr beyond ↦ inr (subst (λ n. n ≤ c.place) (sym marked.begun) beyond) ]
      ];
    }

-- one row more has begun
pub left-more : (old mid : ReadyOf) (at : CursorOf) (mark : Bool) → AreChoices (history_of at.shape) old.choices → HoldsBack old at → old.begun < length (table_of (history_of at.shape)) →
    mark ≡ not (slice_index_or (map (is_named at.path) (transactions (history_of at.shape))) old.begun false) →
    IsRowMarked old mid old.begun mark → HoldsBack (record { shape = mid.shape; choices = mid.choices; marks = mid.marks; begun = mid.begun + 1 }) at
left-more old mid at mark choices before inside is marked =
    record {
      shape = marked.shape ∙ before.shape;
      inside = omega (arith, marked.begun);
      left = λ k c there none. elim (unmarked old mid old.begun mark k c marked there none) [
        | inl own ↦
            let earlier : slice_get old.choices k ≡ Some c = ap (λ l. slice_get l k) (sym marked.choices) ∙ there in
            let (r, (row, tx)) = choices.rows k c earlier in
            let (within, number) = row-of (history_of at.shape) (transactions (history_of at.shape)) c.place r row in
            inl (named k c (sym is ∙ own.1) (subst (λ n. n < length (transactions (history_of at.shape))) own.0 within) (ap (λ n. get_or (transactions (history_of at.shape)) n 0) (sym own.0) ∙ number ∙ tx))
        | inr other ↦ elim (before.left k c other.2 other.1) [
          | inl named_before ↦ inl named_before
          | inr beyond ↦ inr (let more = strictly c.place old.begun beyond other.0 in omega (arith, more, marked.begun))
        ]
      ];
    }
  where
    twice : (b : Bool) → not (not b) ≡ b
    twice true = refl
    twice false = refl

    strictly : (n m : ℕ) → m ≤ n → (n ≡ m → ⊥) → m + 1 ≤ n
    strictly n m low apart = elim (split (nat_eq n m)) [
      | inl same ↦ absurd (apart (nat_eq-is n m same))
      | inr other ↦ grind (arith, nat_tests)
    ]

    named : (k : ℕ) (c : Choice) → not (slice_index_or (map (is_named at.path) (transactions (history_of at.shape))) old.begun false) ≡ false → old.begun < length (transactions (history_of at.shape)) →
        get_or (transactions (history_of at.shape)) old.begun 0 ≡ c.decision.tx → is_named at.path c.decision.tx ≡ true
    named k c shut within number =
        let placed : is_named at.path (get_or (transactions (history_of at.shape)) old.begun 0) ≡ not (not (slice_index_or (map (is_named at.path) (transactions (history_of at.shape))) old.begun false)) =
        sym (named-at (is_named at.path) (transactions (history_of at.shape)) old.begun 0 within) ∙ sym (twice (slice_index_or (map (is_named at.path) (transactions (history_of at.shape))) old.begun false)) in
        ap (is_named at.path) (sym number) ∙ placed ∙ ap not shut

-- the last transaction was taken back, which has no choice
pub ready-back_none : (r : ReadyOf) (at : CursorOf) (d : Decision) → AreChoices (history_of at.shape) r.choices → IsReadyBefore r at d →
    position (nat_eq d.tx) (map (λ (x : RowOf). x.tx) (table_of (history_of at.shape))) ≡ None → IsReady r at
ready-back_none r at d choices ready found = record {
  all = record {
    shape = ready.all.shape;
    inside = ready.all.inside;
    left = λ k c there none. elim (ready.all.left k c there none) [
      | inl named ↦ elim (named-back at.path d c.decision.tx named) [
        | inl before ↦ inl before
        | inr own ↦ (let clash : None ≡ Some c.place = sym found ∙ row-of_own (history_of at.shape) r.choices k c d.tx choices there own in absurd (cc))
      ]
      | inr behind ↦ inr behind
    ];
  };
  late = λ inside. late-back (history_of at.shape) at.path d (slice_index_or (transactions (history_of at.shape)) r.begun 0) (ready.late inside);
}

pub ready-back : (old new : ReadyOf) (at : CursorOf) (d : Decision) (row : ℕ) → AreChoices (history_of at.shape) old.choices → IsReadyBefore old at d →
    position (nat_eq d.tx) (map (λ (x : RowOf). x.tx) (table_of (history_of at.shape))) ≡ Some row → IsRowMarked old new row true → IsReady new at
ready-back old new at d row choices ready found marked = record {
  all = record {
    shape = marked.shape ∙ ready.all.shape;
    inside = subst (λ n. n ≤ length (table_of (history_of at.shape))) (sym marked.begun) ready.all.inside;
    left = λ k c there none. elim (unmarked old new row true k c marked there none) [
      | inl own ↦ (let clash : true ≡ false = own.1 in absurd (cc))
      | inr other ↦ elim (ready.all.left k c other.2 other.1) [
        | inl named ↦ elim (named-back at.path d c.decision.tx named) [
          | inl before ↦ inl before
          | inr own ↦
              let some : Some row ≡ Some c.place = sym found ∙ row-of_own (history_of at.shape) old.choices k c d.tx choices other.2 own in
              let place : c.place ≡ row = cc in
              absurd (other.0 place)
        ]
        | inr behind ↦ inr (subst (λ n. n ≤ c.place) (sym marked.begun) behind)
      ]
    ];
  };
  late = λ inside. subst (λ n. is_enabled (history_of at.shape) at.path (slice_index_or (transactions (history_of at.shape)) n 0) ≡ false) (sym marked.begun)
      (late-back (history_of at.shape) at.path d (slice_index_or (transactions (history_of at.shape)) old.begun 0) (ready.late (subst (λ n. n < length (table_of (history_of at.shape))) marked.begun inside)));
}

-- one row less has begun
pub ready-less : (old mid new : ReadyOf) (at : CursorOf) (n : ℕ) → IsReady old at → old.begun ≡ n + 1 → is_enabled (history_of at.shape) at.path (slice_index_or (transactions (history_of at.shape)) n 0) ≡ false →
    mid ≡ record { shape = old.shape; choices = old.choices; marks = old.marks; begun = n } → IsRowMarked mid new n false → IsReady new at
ready-less old mid new at n ready more late shrunk marked =
    let shape : mid.shape ≡ old.shape = ap (λ (r : ReadyOf). r.shape) shrunk in
    let begun : new.begun ≡ n = marked.begun ∙ ap (λ (r : ReadyOf). r.begun) shrunk in
    let within = ready.all.inside in record {
      all = record {
        shape = marked.shape ∙ shape ∙ ready.all.shape;
        inside = omega (arith, begun, more, within);
        left = λ k c there none. elim (unmarked mid new n false k c marked there none) [
          | inl own ↦ inr (let place = own.0 in omega (arith, begun, place))
          | inr other ↦ elim (ready.all.left k c (ap (λ (r : ReadyOf). slice_get r.choices k) (sym shrunk) ∙ other.2) (ap (λ (r : ReadyOf). slice_index_or r.marks k false) (sym shrunk) ∙ other.1)) [
            | inl named ↦ inl named
            | inr behind ↦ inr (omega (arith, begun, more, behind))
          ]
        ];
      };
      late = λ inside. subst (λ m. is_enabled (history_of at.shape) at.path (slice_index_or (transactions (history_of at.shape)) m 0) ≡ false) (sym begun) late;
    }

-- # Terms of the code

-- the place of a transaction's row, in the shape of the cursor
pub found-in : (t : ℕ) (rows : List RowOf) (s u : ShapeOf) (o p : Option ℕ) → o ≡ position (nat_eq t) (map (λ (x : RowOf). x.tx) rows) → rows ≡ table_of (history_of s) → s ≡ u → o ≡ p →
    position (nat_eq t) (map (λ (x : RowOf). x.tx) (table_of (history_of u))) ≡ p
found-in t rows s u o p is table same so =
    sym (ap (λ (v : ShapeOf). position (nat_eq t) (map (λ (x : RowOf). x.tx) (table_of (history_of v)))) same)
    ∙ ap (λ l. position (nat_eq t) (map (λ (x : RowOf). x.tx) l)) (sym table) ∙ sym is ∙ so

pub choices-of : (now r : ReadyOf) (at : CursorOf) → AreChoices (history_of now.shape) now.choices → now.shape ≡ at.shape → r.choices ≡ now.choices → AreChoices (history_of at.shape) r.choices
choices-of now r at choices shape same =
    subst (λ l. AreChoices (history_of at.shape) l) (sym same) (subst (λ (s : ShapeOf). AreChoices (history_of s) now.choices) shape choices)

-- # The loop of the search

-- the choices from one place to another are bad where none is marked
pub bad-until : (r : ReadyOf) (start : CursorOf) (cs : List Choice) (from next k : ℕ) → AreChoices (history_of start.shape) cs → r.choices ≡ cs → IsReady r start → AreBad start cs from next →
    ((j : ℕ) → next ≤ j → j < k → slice_index_or r.marks j false ≡ false) → AreBad start cs from k
bad-until r start cs from next k choices same ready bad none j c past below at good =
    elim (split (nat_lt j next)) [
      | inl before ↦ (let low : j < next = grind (arith, nat_tests) in bad j c past low at good)
      | inr behind ↦
          let high : next ≤ j = grind (arith, nat_tests) in
          not-open r start j c (subst (λ l. AreChoices (history_of start.shape) l) (sym same) choices) ready (ap (λ l. slice_get l j) same ∙ at) (none j high below) good
    ]

pub ready-on : (start cur new : CursorOf) (cs : List Choice) (next k : ℕ) (r : ReadyOf) → Follows start cur new cs next k → cur.shape ≡ start.shape → IsReady r cur → IsReadyAfter r new (slice_index_or cs k no_choice).decision
ready-on start cur new cs next k r f same ready =
    let there : slice_get cs k ≡ Some (slice_index_or cs k no_choice) = choice-at cs k f.inside in
    let own : f.choice ≡ slice_index_or cs k no_choice = (let a = f.at in cc) in
    let shape : cur.shape ≡ new.shape = same ∙ sym f.shape in
    (cur.path, (f.path ∙ ap (λ (c : Choice). cur.path ++ c.decision ∷ []) own, subst (λ (v : ShapeOf). IsReady r (record { shape = v; path = cur.path })) shape ready))

-- the cursor went on and back
pub ready-still : (start cur new popped : CursorOf) (cs : List Choice) (next k : ℕ) (r : ReadyOf) → Follows start cur new cs next k → cur.shape ≡ start.shape → popped ≡ record { shape = new.shape; path = take (length new.path - 1) new.path } →
    IsReady r cur → IsReady r popped
ready-still start cur new popped cs next k r f same is ready =
    let went = went-back start cur new popped cs next k f is in
    let back : popped ≡ cur = λ i. record { shape = (went.0 ∙ sym same) i; path = went.1 i } in
    subst (λ (v : CursorOf). IsReady r v) (sym back) ready
