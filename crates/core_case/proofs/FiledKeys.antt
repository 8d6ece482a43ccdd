-- The derived `==` of kinds, keys and groups, against the tests by which records are found and counted.
use Rattle.std.proofs.Common.{◌≡◌, ◌∙◌, refl, sym, ap, subst, ℕ, List, Bool, true, false, ◌&&◌, Option, Some, true≢false}
use Rattle.std.specs.List.{find}
use Rattle.std.specs.Str.{bytes_eq}
use Rattle.std.proofs.lemmas.Bool.{and_parts}
use Rattle.core_rows.proofs.NamePlaces.{bytes_eq-sym}
use Rattle.std.proofs.lemmas.Slice.Eq.{bytes_eq-Decides}
use Rattle.core_rows.specs.Names.{Record, field}
use Rattle.core_case.specs.Kinds.{word_of, kinds, is_kind}
use Rattle.core_case.specs.Faults.{key_of, group_of, is_filed, is_in_group}
use Rattle.core_case.specs.declared.kinds.RecordKind.{RecordKind}
use Rattle.core_case.specs.declared.kinds.RecordKind.TheVariants.{Core, House, Market, Holiday, Instrument, Limit, Tier, Pool, Member, Scenario, Path, Position, Collateral, Cash, End}
use Rattle.core_case.specs.declared.register.Key.{Key}
use Rattle.core_case.specs.declared.register.Group.{Group}
use Rattle.core_case.specs.contracts.kinds.RecordKind.{the_type}
use denote.Enum.Bare.{sameb, same_true, true_same, false_same}

-- the `==` of kinds
abbrev pub same_kind : RecordKind → RecordKind → Bool
same_kind a b = sameb the_type a b

-- the `==` of keys
abbrev pub same_key : Key → Key → Bool
same_key a b = same_kind a.kind b.kind && (bytes_eq a.first.now b.first.now && bytes_eq a.second.now b.second.now)

-- the `==` of groups
abbrev pub same_group : Group → Group → Bool
same_group a b = same_kind a.kind b.kind && bytes_eq a.name.now b.name.now

-- the kind of a word
abbrev kind_of_word : List ℕ → Option RecordKind
kind_of_word w = find (λ kind. bytes_eq w (word_of kind)) kinds

-- the word of a kind gives it back
kind-of-word : (kind : RecordKind) → kind_of_word (word_of kind) ≡ Some kind
kind-of-word Core = refl
kind-of-word House = refl
kind-of-word Market = refl
kind-of-word Holiday = refl
kind-of-word Instrument = refl
kind-of-word Limit = refl
kind-of-word Tier = refl
kind-of-word Pool = refl
kind-of-word Member = refl
kind-of-word Scenario = refl
kind-of-word Path = refl
kind-of-word Position = refl
kind-of-word Collateral = refl
kind-of-word Cash = refl
kind-of-word End = refl

-- the words tell the kinds apart
word-tells : (a b : RecordKind) → word_of a ≡ word_of b → a ≡ b
word-tells a b e = let both : Some a ≡ Some b = sym (kind-of-word a) ∙ ap kind_of_word e ∙ kind-of-word b in cc

-- a record is of one kind
pub one-kind : (a b : RecordKind) (r : Record) → is_kind a r ≡ true → is_kind b r ≡ true → a ≡ b
one-kind a b r h k = word-tells a b (sym ((bytes_eq-Decides (field r 0) (word_of a)).0 h) ∙ (bytes_eq-Decides (field r 0) (word_of b)).0 k)

-- a record of a kind is of what kinds equal it
pub kind-test : (kind k : RecordKind) (r : Record) → is_kind kind r ≡ true → is_kind k r ≡ same_kind kind k
kind-test kind k r h = split (is_kind k r) refl
  where
    split : (b : Bool) → is_kind k r ≡ b → b ≡ same_kind kind k
    split true e = sym (true_same the_type kind k (one-kind kind k r h e))
    split false e = sym (false_same the_type tt kind k (λ same. true≢false (sym h ∙ ap (λ x. is_kind x r) same ∙ e)))

-- three tests, of which the later two need agree only where the first holds
three-tests : (a b c a' b' c' : Bool) → a ≡ a' → (a ≡ true → b ≡ b') → (a ≡ true → c ≡ c') → (a && b && c) ≡ (a' && (b' && c'))
three-tests true b c a' b' c' first second third = let e = second refl in let d = third refl in rw (← first, e, d) refl
three-tests false b c a' b' c' first second third = rw (← first) refl

-- and two tests
two-tests : (a b a' b' : Bool) → a ≡ a' → (a ≡ true → b ≡ b') → (a && b) ≡ (a' && b')
two-tests true b a' b' first second = let e = second refl in rw (← first, e) refl
two-tests false b a' b' first second = rw (← first) refl

-- the key of a record of a kind
pub record IsKeyOf (kind : RecordKind) (r : Record) (key : Key) : Type 0 where
  pub kind_is : key.kind ≡ kind
  pub first_is : key.first.now ≡ (key_of kind r).0
  pub second_is : key.second.now ≡ (key_of kind r).1

-- the group of a record of a kind
pub record IsGroupOf (kind : RecordKind) (r : Record) (group : Group) : Type 0 where
  pub kind_is : group.kind ≡ kind
  pub name_is : group.name.now ≡ group_of kind r

-- a record is filed under the keys that equal its own
pub key-test : (kind : RecordKind) (r : Record) (key k : Key) → is_kind kind r ≡ true → IsKeyOf kind r key → is_filed k.kind k.first.now k.second.now r ≡ same_key key k
key-test kind r key k h of =
    let here : is_kind key.kind r ≡ true = subst (λ (x : RecordKind). is_kind x r ≡ true) (sym of.kind_is) h in
    three-tests (is_kind k.kind r) (bytes_eq k.first.now (key_of k.kind r).0) (bytes_eq k.second.now (key_of k.kind r).1) (same_kind key.kind k.kind)
    (bytes_eq key.first.now k.first.now) (bytes_eq key.second.now k.second.now) (kind-test key.kind k.kind r here)
    (λ e. ap (λ x. bytes_eq k.first.now (key_of x r).0) (one-kind k.kind kind r e h) ∙ ap (bytes_eq k.first.now) (sym of.first_is) ∙ bytes_eq-sym k.first.now key.first.now)
    (λ e. ap (λ x. bytes_eq k.second.now (key_of x r).1) (one-kind k.kind kind r e h) ∙ ap (bytes_eq k.second.now) (sym of.second_is) ∙ bytes_eq-sym k.second.now key.second.now)

-- a record is counted in the groups that equal its own
pub group-test : (kind : RecordKind) (r : Record) (group g : Group) → is_kind kind r ≡ true → IsGroupOf kind r group → is_in_group g.kind g.name.now r ≡ same_group group g
group-test kind r group g h of =
    let here : is_kind group.kind r ≡ true = subst (λ (x : RecordKind). is_kind x r ≡ true) (sym of.kind_is) h in
    two-tests (is_kind g.kind r) (bytes_eq g.name.now (group_of g.kind r)) (same_kind group.kind g.kind) (bytes_eq group.name.now g.name.now) (kind-test group.kind g.kind r here)
    (λ e. ap (λ x. bytes_eq g.name.now (group_of x r)) (one-kind g.kind kind r e h) ∙ ap (bytes_eq g.name.now) (sym of.name_is) ∙ bytes_eq-sym g.name.now group.name.now)

-- equal keys are of one kind and have the same words
pub record AreAlike (a b : Key) : Type 0 where
  pub kinds : a.kind ≡ b.kind
  pub firsts : a.first.now ≡ b.first.now
  pub seconds : a.second.now ≡ b.second.now

pub alike-keys : (a b : Key) → same_key a b ≡ true → AreAlike a b
alike-keys a b h =
    let kinds = and_parts (same_kind a.kind b.kind) (bytes_eq a.first.now b.first.now && bytes_eq a.second.now b.second.now) h in
    let words = and_parts (bytes_eq a.first.now b.first.now) (bytes_eq a.second.now b.second.now) kinds.1 in
    record {
      kinds = same_true the_type tt a.kind b.kind kinds.0;
      firsts = (bytes_eq-Decides a.first.now b.first.now).0 words.0;
      seconds = (bytes_eq-Decides a.second.now b.second.now).0 words.1;
    }

-- equal groups are of one kind and have the same name
pub alike-groups : (a b : Group) → same_group a b ≡ true → (a.kind ≡ b.kind) × (a.name.now ≡ b.name.now)
alike-groups a b h =
    let parts = and_parts (same_kind a.kind b.kind) (bytes_eq a.name.now b.name.now) h in
    (same_true the_type tt a.kind b.kind parts.0, (bytes_eq-Decides a.name.now b.name.now).0 parts.1)
