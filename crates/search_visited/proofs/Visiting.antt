-- Configurations as words.
use Rattle.std.specs.Prelude.{◌≡◌, ℕ, zero, suc, ◌+◌, ◌-◌, ◌*◌, ◌/◌, ◌%◌, ◌<◌, ◌≤◌, Bool, true, List, [], ◌∷◌, ◌++◌, map, length, take, drop, Option, Some, None, slice_get, MatchOption, refl, ◌⊎◌}
use Rattle.std.proofs.Common.{sym, ◌∙◌, ap, subst, inl, inr, arith, get_or, set}
use Rattle.std.proofs.Math.Nat.{zero-mul, suc-mul, mul-le-mul_right}
use Rattle.std.proofs.Math.Seq.{take-length, drop-nil}
use Rattle.std.proofs.lemmas.List.{nil_from_length, length-append, take-append-le, take_all, drop-append-le, length-drop, map-append}
use Rattle.base_bits.specs.Marked.{marks_of, IsBitWritten}
use Rattle.base_bits.proofs.Marking.{marks-written, word-written}
use Rattle.search_visited.specs.Visited.{EntryOf, chunks, entry_of, with_place, WithPlace, IsConfiguration, IsKeptAs}

-- # Lists of one length

drop-more : {X : Type 0} (a b : ℕ) (xs : List X) → drop a (drop b xs) ≡ drop (b + a) xs
drop-more a zero xs = let same : a ≡ 0 + a = omega arith in ap (λ n. drop n xs) same
drop-more a (suc b) [] = drop-nil a ∙ sym (drop-nil (suc b + a))
drop-more a (suc b) (x ∷ xs) = let same : suc (b + a) ≡ suc b + a = omega arith in drop-more a b xs ∙ ap (λ n. drop n (x ∷ xs)) same

pub length-chunks : {X : Type 0} (w : ℕ) (items : List X) (n : ℕ) → length (chunks w items n) ≡ n
length-chunks w items zero = refl
length-chunks w items (suc n) = ap (λ k. suc k) (length-chunks w (drop w items) n)

pub chunk-at : {X : Type 0} (w : ℕ) (items : List X) (n k : ℕ) (d : List X) → k < n → get_or (chunks w items n) k d ≡ take w (drop (k * w) items)
chunk-at w items zero k d inside = absurd (omega arith)
chunk-at w items (suc n) zero d inside = ap (λ m. take w (drop m items)) (sym (zero-mul w))
chunk-at w items (suc n) (suc k) d inside =
    let up : w + k * w ≡ suc k * w = (let e = suc-mul k w in omega arith) in
    chunk-at w (drop w items) n k d (omega arith) ∙ ap (take w) (drop-more (k * w) w items ∙ ap (λ m. drop m items) up)

-- a list comes after the others
pub chunks-push : {X : Type 0} (w : ℕ) (items l : List X) (n : ℕ) → length items ≡ n * w → length l ≡ w → chunks w (items ++ l) (suc n) ≡ chunks w items n ++ l ∷ []
chunks-push w items l zero long own =
    let none : items ≡ [] = nil_from_length items (long ∙ zero-mul w) in
    ap (λ (xs : List _). take w (xs ++ l) ∷ []) none ∙ ap (λ m. take m l ∷ []) (sym own) ∙ ap (λ (xs : List _). xs ∷ []) (take-length l)
chunks-push w items l (suc n) long own =
    let split : suc n * w ≡ n * w + w = suc-mul n w in
    let room : w ≤ length items = omega arith in
    let rest : length (drop w items) ≡ n * w = length-drop w items ∙ (let e : length items - w ≡ n * w = omega arith in e) in
    (λ i. take-append-le w items l room i ∷ chunks w (drop-append-le w items l room i) (suc n)) ∙ ap (λ (ls : List (List _)). take w items ∷ ls) (chunks-push w (drop w items) l n rest own)

-- the lists after the first so many
pub drop-chunks : {X : Type 0} (w : ℕ) (items : List X) (n g : ℕ) → g ≤ n → chunks w (drop (g * w) items) (n - g) ≡ drop g (chunks w items n)
drop-chunks w items n zero inside = let whole : n - 0 ≡ n = omega arith in (λ i. chunks w (drop (zero-mul w i) items) (whole i))
drop-chunks w items zero (suc g) inside = absurd (omega arith)
drop-chunks w items (suc n) (suc g) inside =
    let up : suc g * w ≡ w + g * w = (let e = suc-mul g w in omega arith) in
    let fewer : suc n - suc g ≡ n - g = omega arith in
    (λ i. chunks w (drop (up i) items) (fewer i)) ∙ ap (λ (l : List _). chunks w l (n - g)) (sym (drop-more (g * w) w items)) ∙ drop-chunks w (drop w items) n g (omega arith)

-- as many words are left as they have
pub words-left : {X : Type 0} (w : ℕ) (items : List X) (n g : ℕ) → g ≤ n → length items ≡ n * w → length (drop (g * w) items) ≡ (n - g) * w
words-left w items n zero inside long = let whole : n - 0 ≡ n = omega arith in ap (λ m. length (drop m items)) (zero-mul w) ∙ long ∙ ap (λ m. m * w) (sym whole)
words-left w items zero (suc g) inside long = absurd (omega arith)
words-left w items (suc n) (suc g) inside long =
    let up : suc g * w ≡ w + g * w = (let e = suc-mul g w in omega arith) in
    let fewer : suc n - suc g ≡ n - g = omega arith in
    let split : suc n * w ≡ n * w + w = suc-mul n w in
    let rest : length (drop w items) ≡ n * w = length-drop w items ∙ (let e : length items - w ≡ n * w = omega arith in e) in
    (λ i. length (drop (up i) items)) ∙ ap length (sym (drop-more (g * w) w items)) ∙ words-left w (drop w items) n g (omega arith) rest ∙ ap (λ m. m * w) (sym fewer)

-- the first so many words are there
pub words-first : (w n g long : ℕ) → g ≤ n → long ≡ n * w → g * w ≤ long
words-first w n g long inside is = let below : g * w ≤ n * w = mul-le-mul_right w inside in omega arith

place-inside : (place count width long : ℕ) → place < count → long ≡ count * width → place * width + width ≤ long
place-inside place count width long inside is =
    let some : suc place * width ≤ count * width = mul-le-mul_right width (omega arith) in
    let split : suc place * width ≡ place * width + width = suc-mul place width in
    omega arith

-- the words of a place are there
pub room-at : (w : ℕ) (items : List ℕ) (n place : ℕ) (all : List (List ℕ)) → chunks w items n ≡ all → length items ≡ n * w → place < length all → place * w + w ≤ length items
room-at w items n place all is long inside = place-inside place n w (length items) (subst (λ m. place < m) (ap length (sym is) ∙ length-chunks w items n) inside) long

pub count-inside : (count width long : ℕ) → 0 < width → long ≡ count * width → count ≤ long
count-inside zero width long some is = omega arith
count-inside (suc count) width long some is =
    let split : suc count * width ≡ count * width + width = suc-mul count width in
    let below : count ≤ count * width = count-inside count width (count * width) some refl in
    omega arith

one-longer : (count width marks long all : ℕ) → long ≡ count * width → width ≡ marks + 1 → all ≡ long + (marks + 1) → all ≡ suc count * width
one-longer count width marks long all is own grown = let split : suc count * width ≡ count * width + width = suc-mul count width in omega arith

-- # Marks and one more

pub rest-all : (xs : List ℕ) (n : ℕ) → take (length xs - n) (drop n xs) ≡ drop n xs
rest-all xs n = take_all (length xs - n) (drop n xs) (let long = length-drop n xs in omega (arith, long))

-- words of which those before a place and after it are the same, and the one there is another
pub set-between : (xs ys : List ℕ) (i v : ℕ) → i < length xs → i < length ys → get_or ys i 0 ≡ v → take i ys ≡ take i xs → drop (i + 1) ys ≡ drop (i + 1) xs → ys ≡ set xs i v
set-between [] ys i v inside there at front back = absurd (omega arith)
set-between (x ∷ xs) [] i v inside there at front back = absurd (omega arith)
set-between (x ∷ xs) (y ∷ ys) zero v inside there at front back = λ i. at i ∷ back i
set-between (x ∷ xs) (y ∷ ys) (suc i) v inside there at front back =
    let first : y ≡ x = cc in
    let rest : take i ys ≡ take i xs = cc in
    let up : suc i + 1 ≡ suc (i + 1) = omega arith in
    let behind : drop (i + 1) ys ≡ drop (i + 1) xs = ap (λ n. drop n (y ∷ ys)) (sym up) ∙ back ∙ ap (λ n. drop n (x ∷ xs)) up in
    let whole : ys ≡ set xs i v = set-between xs ys i v (omega arith) (omega arith) at rest behind in
    λ j. first j ∷ whole j

pub marks-with : (others words : List ℕ) (count place : ℕ) → place < count → WithPlace others words place → marks_of words count ≡ set (marks_of others count) place true
marks-with others words count place inside (v, (within, written, is)) =
    ap (λ (l : List ℕ). marks_of l count) is ∙ marks-written others (set others (place / 64) v) count place true inside (word-written others place v true within written)

-- a mark in the only word
pub with-only : (word own place : ℕ) → place / 64 ≡ 0 → IsBitWritten word own (place % 64) true → WithPlace (word ∷ []) (own ∷ []) place
with-only word own place first written =
    let at : (n : ℕ) → 0 ≡ n → (n < 1) × (IsBitWritten (get_or (word ∷ []) n 0) own (place % 64) true × (own ∷ [] ≡ set (word ∷ []) n own)) =
    λ n is. subst (λ (m : ℕ). (m < 1) × (IsBitWritten (get_or (word ∷ []) m 0) own (place % 64) true × (own ∷ [] ≡ set (word ∷ []) m own))) is (omega arith, (written, refl)) in
    let all = at (place / 64) (sym first) in
    (own, (all.0, all.1.0, all.1.1))

-- # Entries

map-at : {X Y : Type 0} (f : X → Y) (xs : List X) (k : ℕ) (d : X) → k < length xs → slice_get (map f xs) k ≡ Some (f (get_or xs k d))
map-at f [] k d inside = absurd (omega arith)
map-at f (x ∷ xs) zero d inside = refl
map-at f (x ∷ xs) (suc k) d inside = map-at f xs k d (omega arith)

-- the entry of a configuration that was found
pub configuration-entry : (words placed : List ℕ) (marks : List Bool) (n : ℕ) (further : Option ℕ) → marks ≡ marks_of placed (length marks) → MatchOption further (Unit {0}) (λ k. k < length marks) → IsConfiguration words n placed further →
    entry_of (length marks) words ≡ record { placed = with_place marks further; states = n }
configuration-entry words placed marks n None is inside configuration =
    ap (entry_of (length marks)) configuration ∙ (λ i. record { placed = sym is i; states = n })
configuration-entry words placed marks n (Some place) is inside (own, (split, more)) =
    ap (entry_of (length marks)) split ∙ (λ i. record { placed = (marks-with placed own (length marks) place inside more ∙ ap (λ (l : List Bool). set l place true) (sym is)) i; states = n })

pub found-entry : (visited : List (List ℕ)) (place : ℕ) (placed : List ℕ) (marks : List Bool) (n : ℕ) (further : Option ℕ) → place < length visited → marks ≡ marks_of placed (length marks) → MatchOption further (Unit {0}) (λ k. k < length marks) →
    IsConfiguration (get_or visited place []) n placed further → slice_get (map (entry_of (length marks)) visited) place ≡ Some (record { placed = with_place marks further; states = n })
found-entry visited place placed marks n further inside is there configuration =
    map-at (entry_of (length marks)) visited place [] inside ∙ ap (λ (e : EntryOf). Some e) (configuration-entry (get_or visited place []) placed marks n further is there configuration)

width-same : {X : Type 0} (items : List X) (count other w : ℕ) → (count ≡ 0) ⊎ (other ≡ w) → length items ≡ count * other → (length items ≡ count * w) × (chunks w items count ≡ chunks other items count)
width-same items zero other w either long = (long ∙ zero-mul other ∙ sym (zero-mul w), refl)
width-same items (suc count) other w (inl none) long = absurd (omega arith)
width-same items (suc count) other w (inr same) long = (long ∙ ap (λ m. suc count * m) same, ap (λ m. chunks m items (suc count)) (sym same))

-- a configuration came after the others
pub visited-with : (other w : ℕ) (old new placed : List ℕ) (marks : List Bool) (seen : List (List ℕ)) (count n : ℕ) → (count ≡ 0) ⊎ (other ≡ w) → length old ≡ count * other → w ≡ length placed + 1 → marks ≡ marks_of placed (length marks) →
    new ≡ old ++ n ∷ placed → chunks other old count ≡ seen → IsKeptAs (map (entry_of (length marks)) seen) (map (entry_of (length marks)) (chunks w new (count + 1))) (record { placed = marks; states = n }) true
visited-with other w old new placed marks seen count n either long own is grown view =
    let (even, same) = width-same old count other w either long in
    let wide : length (n ∷ placed) ≡ w = omega arith in
    let one : count + 1 ≡ suc count = omega arith in
    ((λ i. map (entry_of (length marks)) (chunks w (grown i) (one i))) ∙ ap (map (entry_of (length marks))) (chunks-push w old (n ∷ placed) count even wide)
    ∙ map-append (entry_of (length marks)) (chunks w old count) ((n ∷ placed) ∷ []) ∙ (λ i. map (entry_of (length marks)) ((same ∙ view) i) ++ configuration-entry (n ∷ placed) placed marks n None is tt refl i ∷ []))

pub words-grown : (other w : ℕ) (old new placed : List ℕ) (count n : ℕ) → (count ≡ 0) ⊎ (other ≡ w) → length old ≡ count * other → w ≡ length placed + 1 → new ≡ old ++ n ∷ placed → length new ≡ (count + 1) * w
words-grown other w old new placed count n either long own grown =
    let (even, same) = width-same old count other w either long in
    let one : count + 1 ≡ suc count = omega arith in
    let all : length new ≡ length old + (length placed + 1) = ap length grown ∙ length-append old (n ∷ placed) ∙ (let up : length old + suc (length placed) ≡ length old + (length placed + 1) = omega arith in up) in
    one-longer count w (length placed) (length old) (length new) even own all ∙ ap (λ m. m * w) (sym one)
