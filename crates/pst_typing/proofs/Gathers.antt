-- What is known of parts, one part more at a time.
use Rattle.std.proofs.Common.{◌≡◌, ℕ, zero, suc, ◌+◌, ◌<◌, List, [], ◌∷◌, ◌++◌, length, map, take, get_or, Option, Some, None, Result, Ok, Err, IfOk, slice_get, refl, sym, ap, ◌∙◌, subst, append_assoc, arith}
use Rattle.std.proofs.lemmas.List.{map-append, length-append, take_more}
use Rattle.std.specs.declared.alloc.AllocError.{AllocError}
use Rattle.pst_model.specs.Parts.{Name}
use Rattle.pst_model.specs.Rules.{Context}
use Rattle.pst_model.specs.declared.expr.Clause.{Clause}
use Rattle.pst_model.specs.declared.expr.Clause.TheVariants as clause
use Rattle.pst_model.specs.declared.expr.Expr.{Expr}
use Rattle.pst_typing.specs.Blamed.{Typing, Seen, type_seen, Leads, IsBlamed, each_part, let_parts, fold_parts, ForParts, for_body, for_in, for_ends_in, for_when}
use Rattle.pst_typing.specs.Decision.{◌>>=◌, item_type}
use Rattle.pst_typing.specs.Gathering.{kind_found, item_in, AreBlamed, IsFound, inside, most_blames, nothing, with_found, LeadsOn, AllLeadOn, IsGathered, AreClausesOf}
use Rattle.pst_typing.specs.declared.blame.Blame.{Blame}
use Rattle.pst_typing.specs.declared.blame.Found.{Found}
use Rattle.pst_typing.specs.declared.blame.Found.TheVariants as found
use Rattle.pst_typing.specs.declared.blame.Gathered.{Gathered}
use Rattle.pst_value.specs.declared.ty.Ty.{Ty}

-- ---- lists

get_seam : {A : Type 0} (xs : List A) (y : A) (ys : List A) → slice_get (xs ++ y ∷ ys) (length xs) ≡ Some y
get_seam [] y ys = refl
get_seam (x ∷ xs) y ys = get_seam xs y ys

append_empty : {A : Type 0} (xs ys : List A) → (xs ++ ys) ≡ [] → ys ≡ []
append_empty [] ys e = e
append_empty (x ∷ xs) ys e = absurd (cc)

map_empty : {A B : Type 0} (f : A → B) (xs : List A) → map f xs ≡ [] → xs ≡ []
map_empty f [] e = refl
map_empty f (x ∷ xs) e = absurd (cc)

take_empty : {A : Type 0} (n : ℕ) (xs : List A) → take (suc n) xs ≡ [] → xs ≡ []
take_empty n [] e = refl
take_empty n (x ∷ xs) e = absurd (cc)

-- ---- blames among more parts

module _ (f : Typing) where
  longer_at : (P Q : List Seen) (types : List Ty) (k : ℕ) (path : List ℕ) → Leads f P types (k ∷ path) → Leads f (P ++ Q) types (k ∷ path)
  longer_at [] Q types k path l = absurd l
  longer_at (p ∷ P) Q types zero path l = l
  longer_at (p ∷ P) Q types (suc k) path l = longer_at P Q types k path l

  longer : (P Q : List Seen) (types : List Ty) (path : List ℕ) → LeadsOn f P types path → LeadsOn f (P ++ Q) types path
  longer P Q types [] l = absurd l
  longer P Q types (k ∷ path) l = longer_at P Q types k path l

  all_longer : (P Q : List Seen) (bs : List Blame) → AllLeadOn f P bs → AllLeadOn f (P ++ Q) bs
  all_longer P Q [] l = tt
  all_longer P Q (b ∷ bs) l = (longer P Q b.kinds b.path l.0, all_longer P Q bs l.1)

  both_lead : (P : List Seen) (bs cs : List Blame) → AllLeadOn f P bs → AllLeadOn f P cs → AllLeadOn f P (bs ++ cs)
  both_lead P [] cs l m = m
  both_lead P (b ∷ bs) cs l m = (l.0, both_lead P bs cs l.1 m)

  first_lead : (n : ℕ) (P : List Seen) (bs : List Blame) → AllLeadOn f P bs → AllLeadOn f P (take n bs)
  first_lead zero P bs l = tt
  first_lead (suc n) P [] l = tt
  first_lead (suc n) P (b ∷ bs) l = (l.0, first_lead n P bs l.1)

  -- a blame within the last part
  last_leads : (P : List Seen) (G : Context) (e : Expr) (types : List Ty) (path : List ℕ) → IsBlamed f G e types path → Leads f (P ++ (G, e) ∷ []) types (length P ∷ path)
  last_leads P G e types path b = rw (get_seam P (G, e) []) b

  all_last : (P : List Seen) (G : Context) (e : Expr) (bs : List Blame) → AreBlamed f G e bs → AllLeadOn f (P ++ (G, e) ∷ []) (map (inside (length P)) bs)
  all_last P G e [] b = tt
  all_last P G e (x ∷ bs) b = (last_leads P G e x.kinds x.path b.0, all_last P G e bs b.1)

  -- one part more
  module _ (P : List Seen) (old : Gathered) (known : IsGathered f P old) (G : Context) (e : Expr) where
    number_more : old.number + 1 ≡ length (P ++ (G, e) ∷ [])
    number_more = omega (arith, known.number, length-append P ((G, e) ∷ []))

    typed_more : (T : Ty) → f e G ≡ Some T → IsGathered f (P ++ (G, e) ∷ []) (with_found old (found.Kind T))
    typed_more T typed = record {
      number = number_more;
      types = λ none. map-append (type_seen f) P ((G, e) ∷ []) ∙ ap (λ os. os ++ f e G ∷ []) (known.types none) ∙ ap (λ o. map Some old.kinds ++ o ∷ []) typed ∙ sym (map-append Some old.kinds (T ∷ []));
      blames = all_longer P ((G, e) ∷ []) old.blames known.blames;
    }

    ill_more : (bs : List Blame) → (bs ≡ [] → ⊥) → AreBlamed f G e bs → IsGathered f (P ++ (G, e) ∷ []) (with_found old (found.Blamed bs))
    ill_more bs some are =
        let here : AllLeadOn f (P ++ (G, e) ∷ []) (map (inside old.number) bs) = rw known.number (all_last P G e bs are) in
        record {
          number = number_more;
          types = λ none. absurd (some (map_empty (inside old.number) bs (append_empty old.blames _ (take_empty 31 _ none))));
          blames = first_lead most_blames _ _ (both_lead _ old.blames _ (all_longer P ((G, e) ∷ []) old.blames known.blames) here);
        }

    found_more : (x : Found) → IsFound f G e x → IsGathered f (P ++ (G, e) ∷ []) (with_found old x)
    found_more (found.Kind T) is = typed_more T is.type
    found_more (found.Blamed bs) is = ill_more bs is.reason.0 is.reason.1

    pub more : (x : Found) (new : Gathered) → IsFound f G e x → new ≡ with_found old x → IsGathered f (P ++ (G, e) ∷ []) new
    more x new is e' = subst (IsGathered f (P ++ (G, e) ∷ [])) (sym e') (found_more x is)

  pub none_yet : IsGathered f [] nothing
  none_yet = record { number = refl; types = λ e. refl; blames = tt }

-- ---- results of the walk

abbrev no_names : Option Context
no_names = None

module _ (f : Typing) where
  -- the type that is found is that of the expression
  pub type_found : (G : Context) (e : Expr) (x : Found) (o : Option Ty) → IsFound f G e x → o ≡ kind_found x → f e G ≡ o
  type_found G e x o is h = is.type ∙ sym h

  pub ok_more : (P : List Seen) (old : Gathered) (G : Context) (e : Expr) (x : Found) (r : Result Gathered AllocError) → IsGathered f P old → IsFound f G e x
      → IfOk r (λ all. all ≡ with_found old x) → IfOk r (λ all. IsGathered f (P ++ (G, e) ∷ []) all)
  ok_more P old G e x (Ok new) known is h = more f P old known G e x new is h
  ok_more P old G e x (Err why) known is h = tt

  pub ok_one : (G : Context) (e : Expr) (old : Gathered) (x : Found) (r : Result Gathered AllocError) → old ≡ nothing → IsFound f G e x
      → IfOk r (λ all. all ≡ with_found old x) → IfOk r (λ all. IsGathered f ((G, e) ∷ []) all)
  ok_one G e old x r start is h = ok_more [] old G e x r (subst (IsGathered f []) (sym start) (none_yet f)) is h

  -- a value, and a body that sees it
  pub ok_let : (x : Name) (e b : Expr) (G : Context) (T : Ty) (old all : Gathered) (y : Found) (r : Result Gathered AllocError) → old ≡ nothing → IsFound f G e (found.Kind T)
      → IsFound f ((x, T) ∷ G) b y → all ≡ with_found old (found.Kind T) → IfOk r (λ new. new ≡ with_found all y)
      → IfOk r (λ new. IsGathered f (let_parts f G x e b) new)
  ok_let x e b G T old all y r start is body h k =
      let first : IsGathered f ((G, e) ∷ []) all = more f [] old (subst (IsGathered f []) (sym start) (none_yet f)) G e (found.Kind T) all is h in
      rw is.type (ok_more ((G, e) ∷ []) all ((x, T) ∷ G) b y r first body k)

  pub ok_let_ill : (x : Name) (e b : Expr) (G : Context) (bs : List Blame) (old : Gathered) (r : Result Gathered AllocError) → old ≡ nothing → IsFound f G e (found.Blamed bs)
      → IfOk r (λ new. new ≡ with_found old (found.Blamed bs))
      → IfOk r (λ new. IsGathered f (let_parts f G x e b) new)
  ok_let_ill x e b G bs old r start is k = rw is.type (ok_one G e old (found.Blamed bs) r start is k)

  -- a fold whose list and first value are known
  abbrev FoldGoal : Name → Expr → Name → Expr → Expr → Context → Result Gathered AllocError → Type 0
  FoldGoal x e acc i b G r = IfOk r (λ new. IsGathered f (fold_parts f G x e acc i b) new)

  pub two_more : (G : Context) (e i : Expr) (old all : Gathered) (y z : Found) → old ≡ nothing → IsFound f G e y → all ≡ with_found old y → IsFound f G i z
      → (r : Result Gathered AllocError) → IfOk r (λ new. new ≡ with_found all z) → IfOk r (λ new. IsGathered f ((G, e) ∷ (G, i) ∷ []) new)
  two_more G e i old all y z start list h first r k =
      ok_more ((G, e) ∷ []) all G i z r (more f [] old (subst (IsGathered f []) (sym start) (none_yet f)) G e y all list h) first k

  then_no_names : (m : Option Ty) → (m >>= (λ S. no_names)) ≡ no_names
  then_no_names None = refl
  then_no_names (Some S) = refl

  fold_ends : (x : Name) (e : Expr) (acc : Name) (i b : Expr) (G : Context) (old all : Gathered) (y z : Found) → old ≡ nothing → IsFound f G e y → all ≡ with_found old y → IsFound f G i z
      → (kind_found y >>= item_type >>= (λ S. kind_found z >>= (λ T. Some ((acc, T) ∷ (x, S) ∷ G)))) ≡ None
      → (r : Result Gathered AllocError) → IfOk r (λ new. new ≡ with_found all z) → FoldGoal x e acc i b G r
  fold_ends x e acc i b G old all y z start list h first none r k = rw (list.type, first.type, none) (two_more G e i old all y z start list h first r k)

  -- over no list
  pub fold_no_list : (x : Name) (e : Expr) (acc : Name) (i b : Expr) (G : Context) (old all : Gathered) (y z : Found) (r : Result Gathered AllocError) → old ≡ nothing → IsFound f G e y → all ≡ with_found old y
      → None ≡ item_in y → IsFound f G i z → IfOk r (λ new. new ≡ with_found all z) → FoldGoal x e acc i b G r
  fold_no_list x e acc i b G old all y z r start list h item first k =
      fold_ends x e acc i b G old all y z start list h first (ap (λ m. m >>= (λ S. kind_found z >>= (λ T. Some ((acc, T) ∷ (x, S) ∷ G)))) (sym item)) r k

  -- whose first value is ill-typed
  pub fold_no_first : (x : Name) (e : Expr) (acc : Name) (i b : Expr) (G : Context) (old all : Gathered) (y : Found) (bs : List Blame) (r : Result Gathered AllocError) → old ≡ nothing → IsFound f G e y → all ≡ with_found old y
      → IsFound f G i (found.Blamed bs) → IfOk r (λ new. new ≡ with_found all (found.Blamed bs)) → FoldGoal x e acc i b G r
  fold_no_first x e acc i b G old all y bs r start list h first k =
      fold_ends x e acc i b G old all y (found.Blamed bs) start list h first (then_no_names (item_in y)) r k

  pub fold_goes : (x : Name) (e : Expr) (acc : Name) (i b : Expr) (G : Context) (S T : Ty) (old all next : Gathered) (y w : Found) → old ≡ nothing → IsFound f G e y → all ≡ with_found old y
      → Some S ≡ item_in y → IsFound f G i (found.Kind T) → next ≡ with_found all (found.Kind T) → IsFound f ((acc, T) ∷ (x, S) ∷ G) b w
      → (r : Result Gathered AllocError) → IfOk r (λ new. new ≡ with_found next w) → FoldGoal x e acc i b G r
  fold_goes x e acc i b G S T old all next y w start list h item first h2 body r k =
      let one : IsGathered f ((G, e) ∷ []) all = more f [] old (subst (IsGathered f []) (sym start) (none_yet f)) G e y all list h in
      let two : IsGathered f ((G, e) ∷ (G, i) ∷ []) next = more f ((G, e) ∷ []) all one G i (found.Kind T) next first h2 in
      rw (list.type, sym item, first.type) (ok_more ((G, e) ∷ (G, i) ∷ []) next ((acc, T) ∷ (x, S) ∷ G) b w r two body k)

  -- expressions in turn
  pub each_more : (G : Context) (es : List Expr) (i : ℕ) (e : Expr) (old new : Gathered) (x : Found) → i < length es → e ≡ get_or es i e → IsGathered f (each_part G (take i es)) old
      → IsFound f G e x → new ≡ with_found old x → IsGathered f (each_part G (take (i + 1) es)) new
  each_more G es i e old new x room at known is h =
      let parts : each_part G (take (i + 1) es) ≡ each_part G (take i es) ++ (G, e) ∷ [] =
      ap (each_part G) (take_more es i e room) ∙ map-append (λ e. (G, e)) (take i es) (get_or es i e ∷ []) ∙ ap (λ d. each_part G (take i es) ++ (G, d) ∷ []) (sym at) in
      subst (λ P. IsGathered f P new) (sym parts) (more f (each_part G (take i es)) old known G e x new is h)

  -- clauses
  module _ (G : Context) (e : Expr) (cs : List Clause) (b : Expr) (old all new : Gathered) (x : Found) (is : IsFound f G e x) (h : all ≡ with_found old x) where
    pub when_goes : AreClausesOf f G cs b all new → AreClausesOf f G (clause.When e ∷ cs) b old new
    when_goes a = record {
      parts = (G, e) ∷ a.parts;
      are = for_when G e cs b a.parts a.are;
      more = λ P known. subst (λ Q. IsGathered f Q new) (append_assoc P ((G, e) ∷ []) a.parts) (a.more (P ++ (G, e) ∷ []) (more f P old known G e x all is h));
    }

    pub in_goes : (y : Name) (S : Ty) → Some S ≡ item_in x → AreClausesOf f ((y, S) ∷ G) cs b all new → AreClausesOf f G (clause.In y e ∷ cs) b old new
    in_goes y S item a = record {
      parts = (G, e) ∷ a.parts;
      are = for_in G y e cs b S a.parts (ap (λ o. o >>= item_type) is.type ∙ sym item) a.are;
      more = λ P known. subst (λ Q. IsGathered f Q new) (append_assoc P ((G, e) ∷ []) a.parts) (a.more (P ++ (G, e) ∷ []) (more f P old known G e x all is h));
    }

  pub in_ends : (G : Context) (e : Expr) (cs : List Clause) (b : Expr) (old all : Gathered) (x : Found) → IsFound f G e x → all ≡ with_found old x → (y : Name)
      → None ≡ item_in x → AreClausesOf f G (clause.In y e ∷ cs) b old all
  in_ends G e cs b old all x is h y item = record {
    parts = (G, e) ∷ [];
    are = for_ends_in G y e cs b (ap (λ o. o >>= item_type) is.type ∙ sym item);
    more = λ P known. more f P old known G e x all is h;
  }

  pub ok_body : (G : Context) (cs : List Clause) (b : Expr) (old : Gathered) (x : Found) (r : Result Gathered AllocError) → cs ≡ [] → IsFound f G b x
      → IfOk r (λ new. new ≡ with_found old x) → IfOk r (λ new. AreClausesOf f G cs b old new)
  ok_body G cs b old x (Ok new) empty is h = record {
    parts = (G, b) ∷ [];
    are = subst (λ ds. ForParts f G ds b ((G, b) ∷ [])) (sym empty) (for_body G b);
    more = λ P known. more f P old known G b x new is h;
  }
  ok_body G cs b old x (Err why) empty is h = tt

  -- the same for results
  pub ok_when : (G : Context) (e : Expr) (cs ds : List Clause) (c : Clause) (b : Expr) (old all : Gathered) (x : Found) (r : Result Gathered AllocError) → cs ≡ c ∷ ds → c ≡ clause.When e
      → IsFound f G e x → all ≡ with_found old x → IfOk r (λ new. AreClausesOf f G ds b all new) → IfOk r (λ new. AreClausesOf f G cs b old new)
  ok_when G e cs ds c b old all x (Ok new) parts at is h a =
      subst (λ xs. AreClausesOf f G xs b old new) (sym (parts ∙ ap (λ d. d ∷ ds) at)) (when_goes G e ds b old all new x is h a)
  ok_when G e cs ds c b old all x (Err why) parts at is h a = tt

  pub ok_in : (G : Context) (e : Expr) (cs : List Clause) (b : Expr) (y : Name) (S : Ty) (old all : Gathered) (x : Found) (r : Result Gathered AllocError) → IsFound f G e x → all ≡ with_found old x → Some S ≡ item_in x
      → IfOk r (λ new. AreClausesOf f ((y, S) ∷ G) cs b all new) → IfOk r (λ new. AreClausesOf f G (clause.In y e ∷ cs) b old new)
  ok_in G e cs b y S old all x (Ok new) is h item a = in_goes G e cs b old all new x is h y S item a
  ok_in G e cs b y S old all x (Err why) is h item a = tt
