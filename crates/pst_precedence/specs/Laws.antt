-- Obstacles and the order in time.
use Rattle.pst_case.specs.declared.case.Case.{Case}
use Rattle.pst_case.specs.declared.history.History.{History}
use Rattle.pst_judge.specs.ByOrder.{order_by}
use Rattle.pst_judge.specs.declared.by_order.CallOrder.TheVariants.{Time}
use Rattle.pst_model.specs.declared.model.Source.{Source}
use Rattle.pst_precedence.specs.Precedences.{AreObstacles}
use Rattle.pst_precedence.specs.declared.obstacles.Obstacles.{Obstacles}
use Rattle.pst_reasons.specs.Reasons.{IsUnexplained}

-- if a run has obstacles, no interleaving in the order of time explains it
abbrev pub ObstaclesRuleOutTime : Type 0
ObstaclesRuleOutTime =
    (m : Source) (c : Case) (h : History) (o : Obstacles) → AreObstacles m c h o
    → IsUnexplained m (order_by Time c h) c h
