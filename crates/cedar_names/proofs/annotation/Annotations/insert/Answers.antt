-- SPDX-License-Identifier: Apache-2.0
use Rattle.cedar_names.proofs.AnnotationLemmas.{annotation_at-put}
use Rattle.cedar_names.proofs.annotation.Annotations.insert.Goals as goal

pub returns-clause-puts : goal.returns-clause-puts
returns-clause-puts c = annotation_at-put c.put.result c.args.self.now.map _ c.args.key c.args.a c.put.ensures.ok
