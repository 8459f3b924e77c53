use Rattle.shape_syntax.proofs.Asked.{path_noted, list_noted}
use Rattle.shape_syntax.proofs.known.KnownClaims.note.Goals as goal

pub returns-in_ok-put-in-Path : goal.returns-in_ok-put-in-Path
returns-in_ok-put-in-Path c = rw c.in-Path.is (path_noted c.args.self.now.paths.keys c.args.self.now.lists.keys c.put.new.nodes.keys c.in-Path.node c.in_ok-put-in-Path.ensures)

pub returns-in_ok-put-in-List : goal.returns-in_ok-put-in-List
returns-in_ok-put-in-List c = rw c.in-List.is (list_noted c.args.self.now.paths.keys c.args.self.now.lists.keys c.put-in-List.new.nodes.keys c.in-List.node c.in_ok-put-in-List.ensures)
