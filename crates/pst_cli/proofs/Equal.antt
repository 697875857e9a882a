-- `==` of cases, and of histories, is true of equal ones, and of no others.
use Rattle.std.proofs.Common.{◌≡◌, Bool, true, false, ◌&&◌, List, Option, Some, None, refl, sym, ap, ◌∙◌, subst, nat_eq}
use Rattle.std.specs.Bool.{Decides}
use Rattle.std.specs.Cmp.Lexicographic.{pointwise, pointwise_decides}
use Rattle.std.specs.Option.{option_eq}
use Rattle.std.proofs.lemmas.Bool.Decides.{Decides-and, Decides-eqb}
use Rattle.pst_case.specs.contracts.history.Reply as enum
use Rattle.pst_case.specs.contracts.history.ReplyPartialEq.TheImpl as replies
use Rattle.pst_case.specs.contracts.history.ReplyEq.TheImpl.Laws as laws
use Rattle.pst_case.specs.declared.case.Case.{Case}
use Rattle.pst_case.specs.declared.case.Command.{Command}
use Rattle.pst_case.specs.declared.history.CallTime.{CallTime}
use Rattle.pst_case.specs.declared.history.History.{History}
use Rattle.pst_case.specs.declared.history.Reply.{Reply}
use Rattle.pst_case.specs.declared.history.Reply.TheVariants as reply
use Rattle.pst_value.proofs.Exact.{same_value-Decides}
use Rattle.pst_value.proofs.ItemsExact.{IsExactChoice, by_exact}
use Rattle.pst_value.specs.Equality.{same_value}
use denote.Enum.Compared.{Each, by}

option_decides : {A : Type 0} {E : A → A → Bool} → ((a b : A) → Decides (E a b) (a ≡ b)) → (x y : Option A) → Decides (option_eq E x y) (x ≡ y)
option_decides decides None None = (λ e. refl, λ e. refl)
option_decides decides None (Some y) = (λ e. cc, λ e. cc)
option_decides decides (Some x) None = (λ e. cc, λ e. cc)
option_decides decides (Some x) (Some y) =
    (λ e. ap Some ((decides x y).0 e), λ e. let p : x ≡ y = cc in (decides x y).1 p)

-- ---- cases

abbrev pub same_command : Command → Command → Bool
same_command a b = nat_eq a.op b.op && pointwise same_value a.args b.args

command_decides : (a b : Command) → Decides (same_command a b) (a ≡ b)
command_decides a b =
    let d : Decides (same_command a b) ((a.op ≡ b.op) × (a.args ≡ b.args))
    = Decides-and (nat_eq a.op b.op) (pointwise same_value a.args b.args) (Decides-eqb a.op b.op) (pointwise_decides same_value-Decides a.args b.args) in
    (λ e. let p = d.0 e in λ i. record { op = p.0 i; args = p.1 i }, λ e. d.1 (ap (λ c. c.op) e, ap (λ c. c.args) e))

abbrev same_commands : List Command → List Command → Bool
same_commands = pointwise same_command

commands_decide : (xs ys : List Command) → Decides (same_commands xs ys) (xs ≡ ys)
commands_decide = pointwise_decides command_decides

abbrev pub same_case : Case → Case → Bool
same_case a b = same_commands a.prefix b.prefix && (pointwise same_commands a.branches b.branches && same_commands a.suffix b.suffix)

pub case_decides : (a b : Case) → Decides (same_case a b) (a ≡ b)
case_decides a b =
    let rest : Decides (pointwise same_commands a.branches b.branches && same_commands a.suffix b.suffix) ((a.branches ≡ b.branches) × (a.suffix ≡ b.suffix))
    = Decides-and (pointwise same_commands a.branches b.branches) (same_commands a.suffix b.suffix) (pointwise_decides commands_decide a.branches b.branches) (commands_decide a.suffix b.suffix) in
    let d : Decides (same_case a b) ((a.prefix ≡ b.prefix) × ((a.branches ≡ b.branches) × (a.suffix ≡ b.suffix)))
    = Decides-and (same_commands a.prefix b.prefix) _ (commands_decide a.prefix b.prefix) rest in (
      λ e. let p = d.0 e in λ i. record { prefix = p.0 i; branches = p.1.0 i; suffix = p.1.1 i },
      λ e. d.1 (ap (λ c. c.prefix) e, (ap (λ c. c.branches) e, ap (λ c. c.suffix) e)),
    )

-- ---- histories

abbrev pub same_reply : Reply → Reply → Bool
same_reply = replies.ghosts.eq

abbrev each : Each Bool enum.the_parts
each = (λ a b. same_value a.0 b.0, (λ a b. true, (λ a b. true, (λ a b. true, (λ a b. true, tt)))))

fields : (a : Reply) → IsExactChoice enum.the_parts each (enum.as_values a)
fields (reply.Value v) = λ y e. let p : v ≡ y.0 = (same_value-Decides v y.0).0 e in ap (λ z. (z, tt)) p
fields reply.Misfit = λ y e. refl
fields reply.Failed = λ y e. refl
fields reply.NotRun = λ y e. refl
fields reply.Unknown = λ y e. refl

-- `==` compares the values of one form
compared : (a b : Reply) → same_reply a b ≡ by false false enum.the_parts each (enum.as_values a) (enum.as_values b)
compared a b = refl

reply_exact : (a b : Reply) → same_reply a b ≡ true → a ≡ b
reply_exact a b e =
    sym (enum.the_eta a) ∙ ap enum.the_make (by_exact enum.the_parts each (enum.as_values a) (enum.as_values b) (fields a) (sym (compared a b) ∙ e)) ∙ enum.the_eta b

reply_decides : (a b : Reply) → Decides (same_reply a b) (a ≡ b)
reply_decides a b = (reply_exact a b, λ e. let P : Reply → Type 0 = λ x. same_reply a x ≡ true in subst P e (laws.laws-law.refl a))

abbrev same_replies : List Reply → List Reply → Bool
same_replies = pointwise same_reply

replies_decide : (xs ys : List Reply) → Decides (same_replies xs ys) (xs ≡ ys)
replies_decide = pointwise_decides reply_decides

abbrev pub same_time : CallTime → CallTime → Bool
same_time a b = nat_eq a.invoked b.invoked && option_eq nat_eq a.completed b.completed

time_decides : (a b : CallTime) → Decides (same_time a b) (a ≡ b)
time_decides a b =
    let d : Decides (same_time a b) ((a.invoked ≡ b.invoked) × (a.completed ≡ b.completed))
    = Decides-and (nat_eq a.invoked b.invoked) (option_eq nat_eq a.completed b.completed) (Decides-eqb a.invoked b.invoked) (option_decides Decides-eqb a.completed b.completed) in
    (λ e. let p = d.0 e in λ i. record { invoked = p.0 i; completed = p.1 i }, λ e. d.1 (ap (λ c. c.invoked) e, ap (λ c. c.completed) e))

abbrev same_times : List (List CallTime) → List (List CallTime) → Bool
same_times = pointwise (pointwise same_time)

times_decide : (xs ys : List (List CallTime)) → Decides (same_times xs ys) (xs ≡ ys)
times_decide = pointwise_decides (pointwise_decides time_decides)

abbrev pub same_history : History → History → Bool
same_history a b =
    same_replies a.prefix b.prefix && (pointwise same_replies a.branches b.branches && (same_replies a.suffix b.suffix && option_eq same_times a.times b.times))

pub history_decides : (a b : History) → Decides (same_history a b) (a ≡ b)
history_decides a b =
    let last : Decides (same_replies a.suffix b.suffix && option_eq same_times a.times b.times) ((a.suffix ≡ b.suffix) × (a.times ≡ b.times))
    = Decides-and (same_replies a.suffix b.suffix) (option_eq same_times a.times b.times) (replies_decide a.suffix b.suffix) (option_decides times_decide a.times b.times) in
    let rest : Decides (pointwise same_replies a.branches b.branches && (same_replies a.suffix b.suffix && option_eq same_times a.times b.times)) ((a.branches ≡ b.branches) × ((a.suffix ≡ b.suffix) × (a.times ≡ b.times)))
    = Decides-and (pointwise same_replies a.branches b.branches) _ (pointwise_decides replies_decide a.branches b.branches) last in
    let d : Decides (same_history a b) ((a.prefix ≡ b.prefix) × ((a.branches ≡ b.branches) × ((a.suffix ≡ b.suffix) × (a.times ≡ b.times))))
    = Decides-and (same_replies a.prefix b.prefix) _ (replies_decide a.prefix b.prefix) rest in (
      λ e. let p = d.0 e in λ i. record { prefix = p.0 i; branches = p.1.0 i; suffix = p.1.1.0 i; times = p.1.1.1 i },
      λ e. d.1 (ap (λ c. c.prefix) e, (ap (λ c. c.branches) e, (ap (λ c. c.suffix) e, ap (λ c. c.times) e))),
    )
