-- What a statement holds that well-formed tokens spell.
use Rattle.std.proofs.Common.{◌≡◌, ◌⊎◌, ℕ, ◌≤◌, Bool, true, false, cond, not, ◌&&◌, nat_le, List, [], ◌∷◌, ◌++◌, length, Option, None, Some, refl, sym, subst, inl, inr, arith}
use Rattle.std.specs.List.{AllByRecursion, flat_map, list_any}
use Rattle.std.specs.Prelude.{codes, ⊤}
use Rattle.std.specs.Str.{IsUtf8}
use Rattle.sasi_types.specs.declared.column.ColumnType.{ColumnType}
use Rattle.sasi_types.specs.declared.declaration.Declaration.{Declaration}
use Rattle.sasi_types.specs.declared.declaration.Declaration.TheVariants.{Column, KeyColumn, Key}
use Rattle.sasi_types.specs.declared.literal.Literal.{Literal}
use Rattle.sasi_types.specs.declared.literal.Literal.TheVariants as literals
use Rattle.sasi_types.specs.declared.relation.Test.{Test}
use Rattle.sasi_types.specs.declared.relation.Test.TheVariants as tests
use Rattle.sasi_model.specs.Tokens.{Token, Word, QuotedName, Quoted, Integer, Uuid, Equal, Less, LessEqual, More, MoreEqual, same}
use Rattle.sasi_model.specs.Forms.{Form, Never, Nothing, One, Then, As, Where, Choose, Many, Phrase, items, Led, Spells}
use Rattle.sasi_model.specs.Statements.{reserved, name_of, string_of, literal_of, test_of, name, string, literal, names, literals as literal_list, equation, key_given, columns_of, keys_of, declaration, table, index_name, option, options, index, insert, update, deleted, delete, relation, asked, relations, select, index_named, begun, stepped, traced, on_files, on_cursors, statement, piece}
use Rattle.sasi_model.specs.Naming.{IsName, IsWord}
use Rattle.sasi_model.specs.WellFormed.{IsWellFormedToken, IsWellFormedLiteral, IsWellFormedColumn, IsWellFormedSet, IsWellFormedOption, IsTested, IsWellFormedRelation, AreNames, IsNameOrNone, AreNamesOrNone, IsWellFormedSelect, IsWellFormed}

-- ---- what one token stands for

fits : (w : List ℕ) (short other : Bool) (name : List ℕ) → nat_le (length w) 48 ≡ short → cond (short && other) (Some w) None ≡ Some name → 1 ≤ length w → IsWord w → IsName name
fits w true true name le is some word =
    let same_name : w ≡ name = cc in
    subst IsName same_name (record { some = some; short = grind arith; word = word })
fits w true false name le is some word = cc
fits w false other name le is some word = cc

token_name : (token : Token) (name : List ℕ) → name_of token ≡ Some name → IsWellFormedToken token → IsName name
token_name (Word w) name is written = fits w (nat_le (length w) 48) (not (list_any (same w) reserved)) name refl is written.0 written.1
token_name (QuotedName n) name is written = let same_name : n ≡ name = (let e : Some n ≡ Some name = is in cc) in subst IsName same_name written
token_name _ name is written = cc

token_literal : (token : Token) (literal : Literal) → literal_of token ≡ Some literal → IsWellFormedToken token → IsWellFormedLiteral literal
token_literal (Quoted text) literal is written = let e : literals.Text text ≡ literal = cc in subst IsWellFormedLiteral e written
token_literal (Uuid bytes) literal is written = let e : literals.Uuid bytes ≡ literal = cc in subst IsWellFormedLiteral e written
token_literal (Integer number) literal is written = let e : literals.Number number ≡ literal = cc in subst IsWellFormedLiteral e tt
token_literal (Word w) literal is written = by (same w (codes "null")) is
  where
    by : (b : Bool) → cond b (Some literals.Null) None ≡ Some literal → IsWellFormedLiteral literal
    by true e = let null : literals.Null ≡ literal = cc in subst IsWellFormedLiteral null tt
    by false e = cc
token_literal _ literal is written = cc

token_string : (token : Token) (text : List ℕ) → string_of token ≡ Some text → IsWellFormedToken token → IsUtf8 text
token_string (Quoted t) text is written = let same_text : t ≡ text = cc in subst IsUtf8 same_text written
token_string _ text is written = cc

-- a sign isn't LIKE
token_test : (token : Token) (test : Test) → test_of token ≡ Some test → IsWellFormedToken token → (value : Literal) → IsTested test value
token_test Equal test is written value = let e : tests.Eq ≡ test = cc in subst (λ (t : Test). IsTested t value) e tt
token_test Less test is written value = let e : tests.Lt ≡ test = cc in subst (λ (t : Test). IsTested t value) e tt
token_test LessEqual test is written value = let e : tests.Le ≡ test = cc in subst (λ (t : Test). IsTested t value) e tt
token_test More test is written value = let e : tests.Gt ≡ test = cc in subst (λ (t : Test). IsTested t value) e tt
token_test MoreEqual test is written value = let e : tests.Ge ≡ test = cc in subst (λ (t : Test). IsTested t value) e tt
token_test _ test is written value = cc

-- ---- forms

abbrev Written : List Token → Type 0
Written tokens = AllByRecursion IsWellFormedToken tokens

split : (front behind : List Token) → Written (front ++ behind) → Written front × Written behind
split [] behind all = (tt, all)
split (t ∷ front) behind all = let parts = split front behind all.1 in ((all.0, parts.0), parts.1)

-- what a form spells with well-formed tokens has P
pub record Gives {A : Type 0} (form : Form A) (P : A → Type 0) : Type 0 where
  pub gives : (value : A) (tokens : List Token) → Spells form value tokens → Written tokens → P value

weaker : {A : Type 0} {form : Form A} {P Q : A → Type 0} → Gives form P → ((a : A) → P a → Q a) → Gives form Q
weaker p so = record { gives = λ value tokens s all. so value (p.gives value tokens s all) }

any : {A : Type 0} {form : Form A} → Gives form (λ a. ⊤)
any = record { gives = λ value tokens s all. tt }

never : {A : Type 0} {P : A → Type 0} → Gives Never P
never = record { gives = λ value tokens s all. absurd s }

nothing : {A : Type 0} {a : A} {P : A → Type 0} → P a → Gives (Nothing a) P
nothing {P = P} p = record { gives = λ value tokens s all. subst P (sym s.1) p }

one : {A : Type 0} {value_of : Token → Option A} {P : A → Type 0} → ((token : Token) (value : A) → value_of token ≡ Some value → IsWellFormedToken token → P value) → Gives (One value_of) P
one p = record { gives = λ value tokens s all. p s.token value s.stands (let alone : Written (s.token ∷ []) = subst Written s.alone all in alone.0) }

both : {A B : Type 0} {first : Form A} {second : Form B} {P : A → Type 0} {Q : B → Type 0} → Gives first P → Gives second Q → Gives (Then first second) (λ v. P v.0 × Q v.1)
both p q = record { gives = λ value tokens s all. (let parts = split s.front s.behind (subst Written s.whole all) in (p.gives value.0 s.front s.starts parts.0, q.gives value.1 s.behind s.ends parts.1)) }

renamed : {A B : Type 0} {f : A → B} {form : Form A} {P : A → Type 0} {Q : B → Type 0} → Gives form P → ((a : A) → P a → Q (f a)) → Gives (As f form) Q
renamed {Q = Q} p so = record { gives = λ value tokens s all. subst Q (sym s.is) (so s.from (p.gives s.from tokens s.spelled all)) }

behind : {A : Type 0} {words : Form (Unit {0})} {form : Form A} {P : A → Type 0} → Gives form P → Gives (As (λ both. both.1) (Then words form)) P
behind p = renamed (both any p) (λ a w. w.1)

in_front : {A : Type 0} {words : Form (Unit {0})} {form : Form A} {P : A → Type 0} → Gives form P → Gives (As (λ both. both.0) (Then form words)) P
in_front p = renamed (both p any) (λ a w. w.0)

tested : {A : Type 0} {test : A → Bool} {form : Form A} {P : A → Type 0} → Gives form P → Gives (Where test form) P
tested p = record { gives = λ value tokens s all. p.gives value tokens s.1 all }

either : {A : Type 0} {token : Token} {first second : Form A} {P : A → Type 0} → Gives first P → Gives second P → Gives (Choose token first second) P
either {A} {token} {first} {second} {P} p q = record { gives = chosen } where
  chosen : (value : A) (tokens : List Token) → Led token (Spells first value) tokens ⊎ Spells second value tokens → Written tokens → P value
  chosen value tokens (inl s) all = let led : Written (token ∷ s.behind) = subst Written s.whole all in p.gives value s.behind s.spelled led.1
  chosen value tokens (inr s) all = q.gives value tokens s all

items_given : {A : Type 0} (between : Token) (marks : A → Bool) (item : Bool → A → Phrase) (P : A → Type 0) → ((m : Bool) (a : A) (tokens : List Token) → item m a tokens → Written tokens → P a)
    → (values : List A) (marked : Bool) (tokens : List Token) → items between marks item marked values tokens → Written tokens → (1 ≤ length values) × AllByRecursion P values
items_given between marks item P each [] marked tokens s all = absurd s
items_given between marks item P each (a ∷ []) marked tokens s all = (omega arith, (each marked a tokens s all, tt))
items_given between marks item P each (a ∷ b ∷ others) marked tokens s all =
    let parts = split s.front s.behind (subst Written s.whole all) in
    let led : Written (between ∷ s.ends.behind) = subst Written s.ends.whole parts.1 in
    (omega arith, (each marked a s.front s.starts parts.0, (items_given between marks item P each (b ∷ others) _ s.ends.behind s.ends.spelled led.1).1))

many : {A : Type 0} {between : Token} {marks : A → Bool} {item : Bool → Form A} {marked : Bool} {P : A → Type 0} → ((m : Bool) → Gives (item m) P)
    → Gives (Many between marks item marked) (λ values. (1 ≤ length values) × AllByRecursion P values)
many {between = between} {marks} {item} {marked} {P} each =
    record { gives = λ values tokens s all. items_given between marks (λ m. Spells (item m)) P (λ m a ts p written. (each m).gives a ts p written) values marked tokens s all }

-- ---- parts

name_gives : Gives name IsName
name_gives = one token_name

string_gives : Gives string IsUtf8
string_gives = one token_string

literal_gives : Gives literal IsWellFormedLiteral
literal_gives = one token_literal

names_give : Gives names AreNames
names_give = weaker (many (λ m. name_gives)) (λ values w. w.1)

literals_give : Gives literal_list (AllByRecursion IsWellFormedLiteral)
literals_give = weaker (many (λ m. literal_gives)) (λ values w. w.1)

equation_gives : Gives equation IsWellFormedSet
equation_gives = weaker (both name_gives (behind literal_gives)) (λ set w. w)

key_gives : Gives key_given IsWellFormedSet
key_gives = behind equation_gives

-- ---- CREATE TABLE

abbrev IsWellFormedDeclaration : Declaration → Type 0
IsWellFormedDeclaration (Column c kind) = IsName c
IsWellFormedDeclaration (KeyColumn c kind) = IsName c
IsWellFormedDeclaration (Key key) = IsName key

column_given : (b : Bool) (c : List ℕ) (kind : ColumnType) → IsName c → IsWellFormedDeclaration (cond b (KeyColumn c kind) (Column c kind))
column_given true c kind is = is
column_given false c kind is = is

declaration_gives : (m : Bool) → Gives (declaration m) IsWellFormedDeclaration
declaration_gives true = renamed (both name_gives any) (λ f w. w.0)
declaration_gives false =
    either (renamed (behind (in_front name_gives)) (λ key w. w)) (renamed (both name_gives any) (λ f w. column_given f.1.1 f.0 f.1.0 w.0))

columns_given : (items : List Declaration) → AllByRecursion IsWellFormedDeclaration items → AllByRecursion IsWellFormedColumn (flat_map columns_of items)
columns_given [] all = tt
columns_given (Column c kind ∷ items) all = (all.0, columns_given items all.1)
columns_given (KeyColumn c kind ∷ items) all = (all.0, columns_given items all.1)
columns_given (Key key ∷ items) all = columns_given items all.1

keys_given : (items : List Declaration) → AllByRecursion IsWellFormedDeclaration items → AllByRecursion IsName (flat_map keys_of items)
keys_given [] all = tt
keys_given (Column c kind ∷ items) all = keys_given items all.1
keys_given (KeyColumn c kind ∷ items) all = (all.0, keys_given items all.1)
keys_given (Key key ∷ items) all = (all.0, keys_given items all.1)

table_gives : Gives table IsWellFormed
table_gives = renamed (both name_gives (behind (in_front (many declaration_gives)))) (λ f w. (w.0, columns_given f.1 w.1.1, keys_given f.1 w.1.1))

-- ---- CREATE CUSTOM INDEX

index_name_gives : Gives index_name IsNameOrNone
index_name_gives = either (nothing tt) (renamed (in_front name_gives) (λ n w. w))

option_gives : Gives option IsWellFormedOption
option_gives = weaker (both string_gives (behind string_gives)) (λ o w. w)

options_give : Gives options (AllByRecursion IsWellFormedOption)
options_give = either (weaker (behind (in_front (many (λ m. option_gives)))) (λ values w. w.1)) (nothing tt)

index_gives : (in_steps : Bool) → Gives (index in_steps) IsWellFormed
index_gives in_steps =
    renamed (behind (both index_name_gives (both name_gives (both (behind name_gives) (both (behind string_gives) options_give))))) (λ f w. (w.0, w.1.0, w.1.1.0, w.1.1.1.0, w.1.1.1.1))

-- ---- INSERT, UPDATE and DELETE

insert_gives : Gives insert IsWellFormed
insert_gives =
    renamed (both (tested (behind (both name_gives (both (behind names_give) (behind literals_give))))) any) (λ f w. (w.0.0, w.0.1.0, w.0.1.1))

update_gives : Gives update IsWellFormed
update_gives =
    renamed (both name_gives (both any (both (behind (many (λ m. equation_gives))) key_gives))) (λ f w. (w.0, w.1.1.0.1, w.1.1.1, w.1.1.0.0))

deleted_gives : Gives deleted AreNames
deleted_gives = either (nothing tt) (in_front names_give)

delete_gives : Gives delete IsWellFormed
delete_gives = renamed (both deleted_gives (both name_gives (both any key_gives))) (λ f w. (w.1.0, w.0, w.1.1.1))

-- ---- SELECT

test_gives : Gives (One test_of) (λ test. (value : Literal) → IsTested test value)
test_gives = one token_test

-- a test and its literal
abbrev IsWellFormedTest : Test × Literal → Type 0
IsWellFormedTest t = IsWellFormedLiteral t.1 × IsTested t.0 t.1

relation_gives : Gives relation IsWellFormedRelation
relation_gives = renamed (both name_gives (either like (weaker (both test_gives literal_gives) (λ t w. (w.1, w.0 t.1))))) (λ f w. (w.0, w.1.0, w.1.1))
  where
    like : Gives (As (λ text. (tests.Like, literals.Text text)) string) IsWellFormedTest
    like = renamed string_gives (λ text w. (w, tt))

asked_gives : Gives asked AreNamesOrNone
asked_gives = either (nothing tt) (renamed names_give (λ columns w. w))

relations_give : Gives relations (AllByRecursion IsWellFormedRelation)
relations_give = either (weaker (many (λ m. relation_gives)) (λ values w. w.1)) (nothing tt)

select_gives : Gives select IsWellFormedSelect
select_gives = renamed (both asked_gives (both (behind name_gives) (both relations_give any))) (λ f w. (w.0, w.1.0, w.1.1.0))

-- ---- statements

index_named_gives : Gives index_named IsName
index_named_gives = behind name_gives

begun_gives : Gives begun IsWellFormed
begun_gives = either (renamed name_gives (λ t w. w)) (either (renamed index_named_gives (λ i w. w)) (either (behind (index_gives true)) never))

stepped_gives : Gives stepped IsWellFormed
stepped_gives = either (renamed (both name_gives any) (λ f w. w.0)) (either (renamed (both name_gives any) (λ f w. w.0)) never)

traced_gives : Gives traced IsWellFormed
traced_gives = either (nothing tt) (either (nothing tt) never)

on_files_gives : Gives on_files IsWellFormed
on_files_gives =
    either (renamed name_gives (λ t w. w)) (either (renamed name_gives (λ t w. w)) (either (renamed index_named_gives (λ i w. w))
    (either (behind (nothing tt)) (either begun_gives (either stepped_gives (either traced_gives never))))))

on_cursors_gives : Gives on_cursors IsWellFormed
on_cursors_gives =
    either (renamed (both name_gives (behind select_gives)) (λ f w. (w.0, w.1)))
    (either (renamed (both any (behind name_gives)) (λ f w. w.1)) (either (renamed name_gives (λ c w. w)) on_files_gives))

statement_gives : Gives statement IsWellFormed
statement_gives =
    either (either table_gives (either (index_gives false) never)) (either (renamed index_named_gives (λ i w. w)) (either insert_gives (either update_gives (either delete_gives
    (either (renamed select_gives (λ s w. w)) on_cursors_gives)))))

pub piece_written : Gives piece IsWellFormed
piece_written = in_front statement_gives
