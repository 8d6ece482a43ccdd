-- What is filed and counted once there is one more record.
use Rattle.std.proofs.Common.{◌≡◌, ◌∙◌, refl, sym, ap, ℕ, ◌+◌, ◌≤◌, List, [], ◌∷◌, ◌++◌, length, filter, Bool, true, false, not, cond, Option, Some, None, is_some, option_map, arith, length-append, true≢false}
use Rattle.std.specs.Option.{unwrap_or, option_or}
use Rattle.std.proofs.lemmas.List.Folds.{find-append}
use Rattle.std.proofs.lemmas.List.Elements.{filter-append}
use Rattle.std.proofs.lemmas.List.Filters.{length-filter_both}
use Rattle.core_rows.specs.Names.{Record}
use Rattle.core_case.specs.Kinds.{is_kind, most_records}
use Rattle.core_case.specs.Faults.{is_filed, is_in_group, filed, count_in}
use Rattle.core_case.specs.declared.kinds.RecordKind.{RecordKind}
use Rattle.core_case.specs.declared.register.Key.{Key}
use Rattle.core_case.specs.declared.register.Filed.{Filed}
use Rattle.core_case.specs.declared.register.Group.{Group}
use Rattle.core_case.proofs.FiledKeys.{same_key, same_group, IsKeyOf, IsGroupOf, key-test, group-test, one-kind, alike-keys, alike-groups}

-- what the records file under a key
abbrev pub filed_at : Key → List Record → Option Record
filed_at k rs = filed k.kind k.first.now k.second.now rs

-- how many records they count in a group
abbrev pub counted_in : Group → List Record → ℕ
counted_in g rs = count_in g.kind g.name.now rs

-- a record more is filed under its own key, unless one is there
filed-push : (kind : RecordKind) (r : Record) (key k : Key) (rs : List Record) → is_kind kind r ≡ true → IsKeyOf kind r key
    → filed_at k (rs ++ (r ∷ [])) ≡ option_or (filed_at k rs) (cond (same_key key k) (Some r) None)
filed-push kind r key k rs h of =
    find-append (is_filed k.kind k.first.now k.second.now) rs (r ∷ [])
    ∙ ap (λ b. option_or (filed_at k rs) (cond b (Some r) None)) (key-test kind r key k h of)

-- a list of a record or of none
one-or-none : (b : Bool) (r : Record) → length (cond b (r ∷ []) []) ≡ cond b 1 0
one-or-none true r = refl
one-or-none false r = refl

-- a record more is one more in its own group
count-push : (kind : RecordKind) (r : Record) (group g : Group) (rs : List Record) → is_kind kind r ≡ true → IsGroupOf kind r group
    → counted_in g (rs ++ (r ∷ [])) ≡ counted_in g rs + cond (same_group group g) 1 0
count-push kind r group g rs h of =
    let test = is_in_group g.kind g.name.now in
    ap length (filter-append test rs (r ∷ [])) ∙ length-append (filter test rs) (cond (test r) (r ∷ []) [])
    ∙ ap (λ n. counted_in g rs + n) (one-or-none (test r) r ∙ ap (λ b. cond b 1 0) (group-test kind r group g h of))

-- what is filed under a key is filed under the keys that equal it
filed-alike : (key k : Key) (rs : List Record) → same_key key k ≡ true → filed_at k rs ≡ filed_at key rs
filed-alike key k rs e = let a = alike-keys key k e in let kinds = a.kinds in let firsts = a.firsts in let seconds = a.seconds in rw (kinds, firsts, seconds) refl

-- groups that are equal count the same
count-alike : (group g : Group) (rs : List Record) → same_group group g ≡ true → counted_in g rs ≡ counted_in group rs
count-alike group g rs e = let a = alike-groups group g e in let kinds = a.0 in let names = a.1 in rw (kinds, names) refl

-- no record after the first leaves the first
or-none : (o : Option Record) → option_or o None ≡ o
or-none (Some x) = refl
or-none None = refl

-- a record that is filed already stays the one
or-some : (o p : Option Record) → is_some o ≡ true → option_or o p ≡ o
or-some (Some x) p h = refl
or-some None p h = cc

-- what a map from keys files
abbrev pub value_at : Option Filed → Option Record
value_at o = option_map (λ f. f.fields.now) o

-- a map that files the records files one more, once the record of a new key is put in
pub filed-inserted : (kind : RecordKind) (f : Filed) (key : Key) (rs : List Record) → is_kind kind f.fields.now ≡ true → IsKeyOf kind f.fields.now key
    → (old new : Key → Option Filed) → ((k : Key) → value_at (old k) ≡ filed_at k rs) → is_some (old key) ≡ false
    → ((k : Key) → new k ≡ cond (same_key key k) (Some f) (old k)) → (k : Key) → value_at (new k) ≡ filed_at k (rs ++ (f.fields.now ∷ []))
filed-inserted kind f key rs h of old new files absent puts k = split (same_key key k) refl
  where
    none : (o : Option Filed) → is_some o ≡ false → value_at o ≡ None
    none (Some x) e = cc
    none None e = refl

    split : (b : Bool) → same_key key k ≡ b → value_at (new k) ≡ filed_at k (rs ++ (f.fields.now ∷ []))
    split true e =
        let put : value_at (new k) ≡ Some f.fields.now = ap value_at (puts k) ∙ ap (λ b. value_at (cond b (Some f) (old k))) e in
        let before : filed_at k rs ≡ None = filed-alike key k rs e ∙ sym (files key) ∙ none (old key) absent in
        put ∙ sym (filed-push kind f.fields.now key k rs h of ∙ ap (λ b. option_or (filed_at k rs) (cond b (Some f.fields.now) None)) e ∙ ap (λ o. option_or o (Some f.fields.now)) before)
    split false e =
        let kept : value_at (new k) ≡ filed_at k rs = ap value_at (puts k) ∙ ap (λ b. value_at (cond b (Some f) (old k))) e ∙ files k in
        kept ∙ sym (filed-push kind f.fields.now key k rs h of ∙ ap (λ b. option_or (filed_at k rs) (cond b (Some f.fields.now) None)) e ∙ or-none (filed_at k rs))

-- and the map as it is, where the key of the record is filed already
pub filed-kept : (kind : RecordKind) (r : Record) (key : Key) (rs : List Record) → is_kind kind r ≡ true → IsKeyOf kind r key
    → (old : Key → Option Filed) → ((k : Key) → value_at (old k) ≡ filed_at k rs) → is_some (old key) ≡ true
    → (k : Key) → value_at (old k) ≡ filed_at k (rs ++ (r ∷ []))
filed-kept kind r key rs h of old files present k = split (same_key key k) refl
  where
    some : (o : Option Filed) → is_some o ≡ true → is_some (value_at o) ≡ true
    some (Some x) e = refl
    some None e = cc

    split : (b : Bool) → same_key key k ≡ b → value_at (old k) ≡ filed_at k (rs ++ (r ∷ []))
    split true e =
        let before : is_some (filed_at k rs) ≡ true = ap is_some (filed-alike key k rs e ∙ sym (files key)) ∙ some (old key) present in
        files k ∙ sym (filed-push kind r key k rs h of ∙ or-some (filed_at k rs) (cond (same_key key k) (Some r) None) before)
    split false e =
        files k ∙ sym (filed-push kind r key k rs h of ∙ ap (λ b. option_or (filed_at k rs) (cond b (Some r) None)) e ∙ or-none (filed_at k rs))

-- and the map with the record put in where its key is new
pub filed-once : (kind : RecordKind) (f : Filed) (key : Key) (rs : List Record) → is_kind kind f.fields.now ≡ true → IsKeyOf kind f.fields.now key
    → (old new : Key → Option Filed) → ((k : Key) → value_at (old k) ≡ filed_at k rs)
    → ((k : Key) → new k ≡ cond (same_key key k) (Some (unwrap_or (old key) f)) (old k)) → (k : Key) → value_at (new k) ≡ filed_at k (rs ++ (f.fields.now ∷ []))
filed-once kind f key rs h of old new files puts = split (old key) refl
  where
    written : (g : Filed) → old key ≡ Some g → (k : Key) (b : Bool) → same_key key k ≡ b → value_at (new k) ≡ value_at (old k)
    written g there k true e =
        ap value_at (puts k) ∙ ap (λ b. value_at (cond b (Some (unwrap_or (old key) f)) (old k))) e ∙ ap (λ o. value_at (Some (unwrap_or o f))) there
        ∙ sym (ap value_at there) ∙ files key ∙ sym (filed-alike key k rs e) ∙ sym (files k)
    written g there k false e = ap value_at (puts k) ∙ ap (λ b. value_at (cond b (Some (unwrap_or (old key) f)) (old k))) e

    split : (o : Option Filed) → old key ≡ o → (k : Key) → value_at (new k) ≡ filed_at k (rs ++ (f.fields.now ∷ []))
    split None absent k =
        filed-inserted kind f key rs h of old new files (ap is_some absent)
        (λ q. puts q ∙ ap (λ o. cond (same_key key q) (Some (unwrap_or o f)) (old q)) absent) k
    split (Some g) there k =
        written g there k (same_key key k) refl ∙ filed-kept kind f.fields.now key rs h of old files (ap is_some there) k

-- what is counted of a map from groups
abbrev pub IsCounted : (Group → Option ℕ) → List Record → Type 0
IsCounted counts rs = (g : Group) → is_some (most_records g.kind) ≡ true → unwrap_or (counts g) 0 ≡ counted_in g rs

-- a map that counts the records counts one more, once the count of its group is raised
pub counted-raised : (kind : RecordKind) (r : Record) (group : Group) (rs : List Record) → is_kind kind r ≡ true → IsGroupOf kind r group
    → (old new : Group → Option ℕ) (n : ℕ) → is_some (most_records group.kind) ≡ true → IsCounted old rs → n ≡ unwrap_or (old group) 0
    → ((g : Group) → new g ≡ cond (same_group group g) (Some (n + 1)) (old g)) → IsCounted new (rs ++ (r ∷ []))
counted-raised kind r group rs h of old new n counted counts is puts g limited = split (same_group group g) refl
  where
    put : (b : Bool) → same_group group g ≡ b → unwrap_or (new g) 0 ≡ unwrap_or (cond b (Some (n + 1)) (old g)) 0
    put b e = ap (λ o. unwrap_or o 0) (puts g) ∙ ap (λ x. unwrap_or (cond x (Some (n + 1)) (old g)) 0) e

    pushed : (b : Bool) → same_group group g ≡ b → counted_in g (rs ++ (r ∷ [])) ≡ counted_in g rs + cond b 1 0
    pushed b e = count-push kind r group g rs h of ∙ ap (λ x. counted_in g rs + cond x 1 0) e

    split : (b : Bool) → same_group group g ≡ b → unwrap_or (new g) 0 ≡ counted_in g (rs ++ (r ∷ []))
    split true e =
        let before : n ≡ counted_in g rs = is ∙ counts group counted ∙ sym (count-alike group g rs e) in
        put true e ∙ ap (λ x. x + 1) before ∙ sym (pushed true e)
    split false e = let more = pushed false e in let same = put false e in let was = counts g limited in omega (arith, more, same, was)

-- and the map as it is, where the kind of the record is not counted
pub counted-kept : (kind : RecordKind) (r : Record) (rs : List Record) → is_kind kind r ≡ true → is_some (most_records kind) ≡ false
    → (old : Group → Option ℕ) → IsCounted old rs → IsCounted old (rs ++ (r ∷ []))
counted-kept kind r rs h unlimited old counts g limited = counts g limited ∙ sym (kept (is_kind g.kind r) refl)
  where
    test : Record → Bool
    test = is_in_group g.kind g.name.now

    alone : (b : Bool) → is_kind g.kind r ≡ b → length (cond (test r) (r ∷ []) []) ≡ 0
    alone true e =
        let same : g.kind ≡ kind = one-kind g.kind kind r e h in
        let other : is_some (most_records g.kind) ≡ false = ap (λ k. is_some (most_records k)) same ∙ unlimited in
        absurd (true≢false (sym limited ∙ other))
    alone false e = rw e refl

    kept : (b : Bool) → is_kind g.kind r ≡ b → counted_in g (rs ++ (r ∷ [])) ≡ counted_in g rs
    kept b e =
        let grown = ap length (filter-append test rs (r ∷ [])) ∙ length-append (filter test rs) (cond (test r) (r ∷ []) []) in
        let none = alone b e in
        omega (arith, grown, none)

-- there are no more in a group than records
pub counted-most : (g : Group) (rs : List Record) → counted_in g rs ≤ length rs
counted-most g rs =
    let test = is_in_group g.kind g.name.now in
    let both : length (filter test rs) + length (filter (λ r. not (test r)) rs) ≡ length rs = length-filter_both test (λ r. not (test r)) (λ r. refl) rs in omega arith
