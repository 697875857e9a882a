-- What is known of an expression and of its parts.
use Rattle.std.specs.Prelude.{◌≡◌, ℕ, ◌+◌, List, [], ◌∷◌, ◌++◌, length, map, take, Option, Some, None, ⊤}
use Rattle.pst_model.specs.Rules.{Context}
use Rattle.pst_model.specs.declared.expr.Clause.{Clause}
use Rattle.pst_model.specs.declared.expr.Expr.{Expr}
use Rattle.pst_typing.specs.Blamed.{Typing, Seen, AreTypes, Leads, Parts, ForParts, IsBlamed}
use Rattle.pst_typing.specs.Decision.{◌>>=◌, item_type}
use Rattle.pst_typing.specs.declared.blame.Blame.{Blame}
use Rattle.pst_typing.specs.declared.blame.Found.{Found}
use Rattle.pst_typing.specs.declared.blame.Found.TheVariants as found
use Rattle.pst_typing.specs.declared.blame.Gathered.{Gathered}
use Rattle.pst_value.specs.declared.ty.Ty.{Ty}

-- the type that is found, if there is one
abbrev pub kind_found : Found → Option Ty
kind_found (found.Kind T) = Some T
kind_found (found.Blamed bs) = None

-- the type of the items of a list that is found
abbrev pub item_in : Found → Option Ty
item_in x = kind_found x >>= item_type

-- each of the parts is to blame
abbrev pub AreBlamed : Typing → Context → Expr → List Blame → Type 0
AreBlamed f G e [] = ⊤
AreBlamed f G e (b ∷ bs) = IsBlamed f G e b.kinds b.path × AreBlamed f G e bs

-- there is at least one blame, and each of the parts is to blame
abbrev pub IsReason : Typing → Context → Expr → Found → Type 0
IsReason f G e (found.Kind T) = ⊤
IsReason f G e (found.Blamed bs) = (bs ≡ [] → ⊥) × AreBlamed f G e bs

-- the type of the expression is found, or it has none and parts that are to blame are found
pub record IsFound (f : Typing) (G : Context) (e : Expr) (x : Found) : Type 0 where
  pub type : f e G ≡ kind_found x
  pub reason : IsReason f G e x

-- ---- parts

-- a blame within the part of a number, as a blame within the whole
abbrev pub inside : ℕ → Blame → Blame
inside number b = record { path = number ∷ b.path; kinds = b.kinds }

abbrev pub most_blames : ℕ
most_blames = 32

abbrev pub nothing : Gathered
nothing = record { number = 0; kinds = []; blames = [] }

-- one part more
abbrev pub with_found : Gathered → Found → Gathered
with_found all (found.Kind T) =
    record { number = all.number + 1; kinds = all.kinds ++ T ∷ []; blames = all.blames }
with_found all (found.Blamed bs) = record {
  number = all.number + 1;
  kinds = all.kinds;
  blames = take most_blames (all.blames ++ map (inside all.number) bs);
}

-- the path leads into one of the parts
abbrev pub LeadsOn : Typing → List Seen → List Ty → List ℕ → Type 0
LeadsOn f P types [] = ⊥
LeadsOn f P types (k ∷ path) = Leads f P types (k ∷ path)

abbrev pub AllLeadOn : Typing → List Seen → List Blame → Type 0
AllLeadOn f P [] = ⊤
AllLeadOn f P (b ∷ bs) = LeadsOn f P b.kinds b.path × AllLeadOn f P bs

-- these parts are known: the types of all, or what is to blame in some
pub record IsGathered (f : Typing) (P : List Seen) (all : Gathered) : Type 0 where
  pub number : all.number ≡ length P
  pub types : all.blames ≡ [] → AreTypes f P all.kinds
  pub blames : AllLeadOn f P all.blames

-- the parts of an expression are known
pub record ArePartsOf (f : Typing) (G : Context) (e : Expr) (all : Gathered) : Type 0 where
  pub parts : List Seen
  pub are : Parts f G e parts
  pub known : IsGathered f parts all

-- the parts of the clauses and the body of a comprehension are known, after the parts that are known already
pub record AreClausesOf (f : Typing) (G : Context) (cs : List Clause) (b : Expr) (old new : Gathered) : Type 0 where
  pub parts : List Seen
  pub are : ForParts f G cs b parts
  pub more : (P : List Seen) → IsGathered f P old → IsGathered f (P ++ parts) new

-- what is found of an expression whose parts have these types, by its type: if it has none, it is to blame itself
abbrev pub IsJudged : Option Ty → List Ty → Found → Type 0
IsJudged o types (found.Kind T) = o ≡ Some T
IsJudged o types (found.Blamed bs) = (o ≡ None) × (bs ≡ record { path = []; kinds = types } ∷ [])
