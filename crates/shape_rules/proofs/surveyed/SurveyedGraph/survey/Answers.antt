use Rattle.std.proofs.Common.{List, subst}
use Rattle.rdf_model.specs.declared.triple.Triple.{Triple}
use Rattle.shape_sizes.specs.Surveys.{IsSurvey}
use Rattle.shape_rules.proofs.surveyed.SurveyedGraph.survey.Goals as goal

pub returns : goal.returns
returns c = subst (λ (s : List Triple). IsSurvey s c.self.inside.survey.now) c.self.view_is c.self.invariant.survey
